-- The ways out of the private functions that close and append: one law for each, from what the functions that they call promise.
use mathlib.Core.Path.{◌≡◌, refl, sym, ap, ◌∙◌}
use mathlib.Core.Bool.{Bool, true≢false}
use mathlib.Core.List.{List}
use mathlib.Core.Logic.{⊎_elim}
use Rattle.std.specs.Prelude.{Option, None, Some}
use Prim.Native.Nat.{ℕ, ◌<◌, ◌≤◌}
use native.Mathlib.Omega.{arith}
use lib.ListN.{length}
use Rattle.laws.proofs.Tests.{lt_or_ge}
use Rattle.history.specs.declared.Position.{Position}
use Rattle.layout.specs.declared.Held.{Held}
use Rattle.layout.specs.declared.Place.{Place}
use Rattle.layout.specs.declared.Lane.{Lane}
use Rattle.layout.specs.declared.Extent.{Extent}
use Rattle.layout.specs.declared.Role.{Role}
use Rattle.layout.specs.declared.Role.TheVariants.{Next}
use Rattle.layout.specs.Words.{after, header_of, extent_of}
use Rattle.layout.specs.Frames.{Kind, Within}
use Rattle.layout.specs.Calls.{Read}
use Rattle.layout.proofs.Written.{and_then}
use Rattle.table.specs.Marks.{by_insertion, inserted}
use Rattle.table.specs.Calls.{Sought, Inserted, Released}
use Rattle.table.proofs.Insertion.{insertion_within}
use Rattle.stack.specs.Entries.{by_stack}
use Rattle.stack.specs.Calls.{Pushed}
use Rattle.stack.proofs.Pushing.{pushed_within}
use Rattle.ranges.specs.Private.{every_kind, Spare, Appended, ClosedNext}
use Rattle.ranges.proofs.Lanes.{lane_appended, marks_appended, position_old, position_new}

-- no answer is both something and nothing
both : {A C : Type 0} {x : A} → Some x ≡ None → C
both e = absurd (cc)

-- `up_to_start` and `up_to_now`: no two roles are one
pub apart : {C : Type 0} {role : Role} (a b : Role) → role ≡ a → role ≡ b → (header_of a ≡ header_of b → ⊥) → C
apart a b e f n = absurd (n (ap header_of (sym e ∙ f)))

-- `close_carried`: the lane is the header's where it has a row
read_own : {w : List ℕ} {role : Role} {e : Extent} → Read w role e → 0 < e.rows.0 → e ≡ extent_of w role
read_own {w} {role} {e} r l =
    ⊎_elim (λ (s : length w < 32). absurd (omega (arith, ap (λ (i : Extent). i.rows.0) (r.short s)))) (λ (s : 32 ≤ length w). r.own s) (lt_or_ge (length w) 32)

module _ {w : List ℕ} {e : Extent} {p : Position} {found : Option Held} (read : Read w Next e) (sought : Sought w e.lane e.rows e.capacity p found) where
  -- nothing is found
  pub strikes_nothing : found ≡ None → ClosedNext w w p
  strikes_nothing q = record {
    found = found;
    sought = record {
      none = λ n. q;
      sound = λ h s. both (sym s ∙ q);
      complete = λ t h l. let own = read.own (omega (arith, t.room.wide)) in (rw own at sought).complete t h l;
    };
    lost = λ s. refl;
    closed = λ g s. both (sym s ∙ q);
  }

  -- a row is found and closed
  pub strikes : {v : List ℕ} (g : Held) → found ≡ Some g → Released w v e.lane e.rows g → ClosedNext w v p
  strikes {v} g q closed =
      let own : e ≡ extent_of w Next = read_own read (omega (arith, (sought.sound g q).row)) in
      record {
        found = found;
        sought = rw own at sought;
        lost = λ s. both (sym q ∙ s);
        closed = λ h s. let one : g ≡ h = cc in rw (own, one) at closed;
      }

-- `append`: what writes some kinds of words writes no others than words of every kind, and before an end before a later one
within_more : (written : Kind → Bool) {k : Lane} {end more : Held} {w v : List ℕ} → Within written k end w v → end.0 ≤ more.0 → Within every_kind k more w v
within_more written i l = record {
  long = i.long;
  header = i.header;
  others = i.others;
  kinds = λ kind e. absurd (true≢false e);
  beyond = λ j b. i.beyond j (omega arith);
}

module _ {w : List ℕ} {e : Extent} {p : Position} {x : ℕ} where
  -- the row is inserted and its minimum pushed
  pub appends : {u v : List ℕ} {top : Place} → Spare w e → Inserted w u e.lane e.rows e.capacity p → Pushed u v e.lane e.height e.rows x top
      → Appended w v e p x (record { lane = e.lane; rows = after e.rows; capacity = e.capacity; height = top })
  appends {u} {v} {top} s i d =
      let q : Pushed (inserted w e.lane e.rows e.capacity p) v e.lane e.height e.rows x top = rw (i.done s.room s.row) at d in
      record {
        within = and_then every_kind e.lane e.capacity
            (within_more by_insertion (insertion_within w e.lane e.rows e.capacity p s.row) (omega arith))
            (within_more by_stack (pushed_within q) (omega (arith, s.row, s.high)));
        idle = λ n. absurd (n s);
        same = (refl, refl);
        more = λ n. refl;
        grows = λ values a l o z b m f.
            let y = rw m at q in
            record {
              holds = lane_appended a l z b f o y;
              marks = marks_appended a l z b f o y;
              old = λ h c. sym (position_old a l z b f o y h c);
              new = sym (position_new a l z b f o y);
            };
      }
