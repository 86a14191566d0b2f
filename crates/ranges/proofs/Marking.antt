-- A MARK of words that hold a history: a turn where the active lane is full, the mark's row, and two rows of the merge.
use mathlib.Core.Path.{◌≡◌, refl, sym, ap, subst, ◌∙◌}
use mathlib.Core.List.{List, ◌++◌}
use mathlib.Core.Logic.{inl, inr}
use Prim.Native.Nat.{ℕ, ◌+◌, ◌≤◌}
use native.Mathlib.Omega.{arith}
use lib.IntN.{ℤ}
use lib.ListN.{length}
use Rattle.history.specs.declared.Standing.TheVariants.{Unmarked}
use Rattle.history.specs.Histories.{History, model}
use Rattle.runs.specs.Runs.{AsLent}
use Rattle.layout.specs.declared.Extent.{Extent}
use Rattle.layout.specs.Words.{Earlier, Lower, NotHigher, row₀, position, least_word}
use Rattle.layout.specs.Frames as Frames
use Rattle.layout.proofs.Order.{lower_or_not, lower_through}
use Rattle.layout.proofs.Written.{each_lane, each_kind}
use Rattle.layout.proofs.Puts.{puts_lanes}
use Rattle.table.proofs.Kept.{active_same}
use Rattle.ranges.specs.Holding.{origin, Roles, roles_of, marks_in, Laid, Started, Unfinished, Soon, Holds}
use Rattle.ranges.specs.Private.{Carried, Merged, finishing, Finished}
use Rattle.ranges.proofs.Header.{roles_put}
use Rattle.ranges.proofs.Later.{heights}
use Rattle.ranges.proofs.Moved.{first_same}
use Rattle.ranges.proofs.Stepping.{Steps, older_steps, younger_steps}
use Rattle.ranges.proofs.Turning.{finished_laid, finished_marks}
use Rattle.ranges.proofs.Upkeep.{holds_by}

-- words laid out for so many marks are laid out for more
pub laid_more : {s : Roles} {w : List ℕ} {values : List ℤ} {l m : ℕ} → l ≤ m → Laid s w values l → Laid s w values m
laid_more b a = record {
  apart = a.apart;
  active = a.active;
  younger = a.younger;
  older = a.older;
  next = a.next;
  order = a.order;
  ends = a.ends;
  in_active = a.in_active;
  in_younger = a.in_younger;
  in_older = a.in_older;
  middle_row = a.middle_row;
  whole = a.whole;
  merging = a.merging;
  roomy = a.roomy;
  active_below = omega (arith, a.active_below);
  younger_below = omega (arith, a.younger_below);
  older_below = omega (arith, a.older_below);
  next_below = omega (arith, a.next_below);
  older_few = omega (arith, a.older_few);
}

-- THE MERGE: a Mark's history, with the row of the mark there already, and some rows of the merge still to be carried for it
pub record Going (h : History) (first w : List ℕ) (more : ℕ) : Type 0 where
  pub laid : Laid (roles_of w) w h.values h.peak
  pub started : Started (roles_of w) w
  pub some : Lower row₀ (roles_of w).younger.rows
  pub soon : Unfinished (roles_of w) → Soon (roles_of w) more
  pub marks : marks_in w (roles_of w).older ++ (marks_in w (roles_of w).younger ++ marks_in w (roles_of w).active) ≡ h.active
  pub rest : AsLent (model.bound h) first w

module _ (h : History) (first w : List ℕ) (long : 32 ≤ length w) (short : length h.values ≤ 4294967295) where
  abbrev s : Roles
  s = roles_of w

  -- what a row carried leaves
  going_on : {v : List ℕ} {t : Roles} {more : ℕ} → Going h first w (more + 1) → Steps w v s t h.values h.peak → t.active ≡ s.active → t.younger ≡ s.younger → t.older ≡ s.older → t.start ≡ s.start
      → Unfinished s → t.older_left.0 + t.younger_left.0 ≡ s.older_left.0 + s.younger_left.0 + 1 → Going h first v more
  going_on {v} {t} {more} a b ea ey eo es un left =
      let e = b.roles in
      record {
        laid = subst (λ (x : Roles). Laid x v h.values h.peak) (sym e) b.laid;
        started = subst (λ (x : Roles). Started x v) (sym e)
            (λ z. let f = a.started (subst (Earlier origin) es z) in
            (subst (λ (x : Extent). Lower row₀ x.rows) (sym ea) f.0, subst (λ (x : Extent). position v x.lane row₀ ≡ t.start) (sym ea) (first_same b.active f.1 ∙ sym es)));
        some = subst (λ (x : Roles). Lower row₀ x.younger.rows) (sym e) (subst (λ (x : Extent). Lower row₀ x.rows) (sym ey) a.some);
        soon = λ z. subst (λ (x : Roles). Soon x more) (sym e) (λ y.
            let q = a.soon un a.some in
            omega (arith, q, left, ap (λ (x : Extent). x.rows.0) ea, ap (λ (x : Extent). x.capacity.0) ea, ap (λ (x : Extent). x.rows.0) ey, ap (λ (x : Extent). x.rows.0) eo));
        marks = subst (λ (x : Roles). marks_in v x.older ++ (marks_in v x.younger ++ marks_in v x.active) ≡ h.active) (sym e)
            ((λ n. marks_in v (eo n) ++ (marks_in v (ey n) ++ marks_in v (ea n)))
            ∙ (λ n. active_same (each_kind b.older Frames.row) s.older.rows.0 n
            ++ (active_same (each_kind b.younger Frames.row) s.younger.rows.0 n ++ active_same (each_kind b.active Frames.row) s.active.rows.0 n))
            ∙ a.marks);
        rest = λ i c. b.rest i c ∙ a.rest i c;
      }

  -- one row
  pub going_row : {v : List ℕ} {more : ℕ} → Going h first w (more + 1) → Merged w v → Going h first v more
  going_row {v} {more} a m = elim (lower_or_not s.older_left s.older.rows) [
    | inl l ↦
        let none : s.younger_left.0 ≡ 0 = elim (lower_or_not row₀ s.younger_left) [ inl z ↦ absurd (omega (arith, a.laid.merging.in_order z)) | inr z ↦ omega arith ] in
        let d = (m.older l).done l (heights a.laid.older) (a.laid.merging.older_covers l).on in
        subst (λ (x : List ℕ). Going h first x more) (sym d.done)
        (going_on a (older_steps a.laid short long a.some l (d.low.older refl) d.carried d.onward) refl refl refl refl (λ z. omega (arith, none)) (omega arith))
    | inr l ↦
        let all : s.older_left.0 ≡ s.older.rows.0 = omega (arith, a.laid.merging.older_some) in
        let y = m.younger l in
        elim (lower_or_not s.younger_left s.younger.rows) [
          | inl b ↦
              let d = y.done b (heights a.laid.younger) (a.laid.merging.younger_covers b).on in
              let word : d.word ≡ least_word w s.younger.lane s.younger_run = d.low.own (λ z. absurd (let x : ◌≡◌ {A = ℕ} 0 1 = cc in omega arith)) in
              subst (λ (x : List ℕ). Going h first x more) (sym d.done)
              (going_on a (younger_steps a.laid short long a.some b all (subst (Carried w d.words s.younger s.younger_left) word d.carried) d.onward) refl refl refl refl (λ z. b) (omega arith))
          | inr b ↦
              subst (λ (x : List ℕ). Going h first x more) (sym (y.idle (λ c r t. omega arith)))
              (record { laid = a.laid; started = a.started; some = a.some; soon = λ z. absurd (omega (arith, z a.some)); marks = a.marks; rest = a.rest })
        ]
  ]

  -- the end, if none is left
  pub going_end : {v : List ℕ} → Going h first w 0 → Finished w v → (h.standing ≡ Unmarked → ⊥) → Holds h first v
  going_end {v} a f no_fresh = elim (lower_or_not s.younger_left s.younger.rows) [
    | inl b ↦
        subst (Holds h first) (sym (f.waits (inr b)))
        (holds_by refl short a.laid a.started (λ z. b) (a.soon (λ z. b)) a.marks (λ z. absurd (no_fresh z)) a.rest)
    | inr b ↦
        let younger : s.younger_left.0 ≡ s.younger.rows.0 = omega (arith, a.laid.merging.younger_some) in
        let all : NotHigher s.older.rows s.older_left = a.laid.merging.in_order (lower_through a.some b) in
        let older : s.older_left.0 ≡ s.older.rows.0 = omega (arith, a.laid.merging.older_some) in
        let lanes = puts_lanes (finishing w) w refl in
        subst (Holds h first) (sym (f.done all b))
        (holds_by (roles_put (finishing w) w refl long) short (finished_laid a.laid lanes a.some older younger)
        (λ z. let g = a.started z in (g.0, first_same (each_lane lanes s.active.lane) g.1))
        (λ z. absurd (omega arith)) (λ z. absurd (omega arith)) (finished_marks a.laid lanes a.some older younger ∙ a.marks) (λ z. absurd (no_fresh z))
        (λ i c. lanes.words i (omega arith) ∙ a.rest i c))
  ]
