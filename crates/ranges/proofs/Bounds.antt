-- Whatever the words hold: no call changes their number, or a word from 262,656 on.
use mathlib.Core.Path.{◌≡◌, refl, sym, subst, ◌∙◌}
use mathlib.Core.Bool.{Bool}
use mathlib.Core.List.{List}
use mathlib.Core.Logic.{◌⊎◌, inl, inr, ⊎_elim}
use native.Mathlib.Decide.{ℕ_discrete, dec_lt}
use Prim.Native.Nat.{ℕ, ◌%◌, ◌≤◌}
use native.Mathlib.Omega.{arith}
use Rattle.std.specs.Prelude.{Option, None, Some}
use Rattle.history.specs.declared.Position.{Position}
use Rattle.layout.specs.declared.Held.{Held}
use Rattle.layout.specs.declared.Lane.{Lane}
use Rattle.layout.specs.declared.Extent.{Extent}
use Rattle.layout.specs.declared.Role.{Role}
use Rattle.layout.specs.declared.Role.TheVariants.{Active, Younger, Older, Next}
use Rattle.layout.specs.Words.{after, row₀, mark_word, extent_of, left_of, run_of, Room, rows_puts, left_puts}
use Rattle.layout.specs.Frames.{Kind, SameLanes, Within}
use Rattle.layout.proofs.Order.{lower_or_not, under_or_not}
use Rattle.layout.proofs.Puts.{rows_in_header, left_in_header, puts_lanes}
use Rattle.table.specs.Calls.{Released}
use Rattle.table.proofs.Closing.{release_within}
use Rattle.stack.proofs.Rooms.{room_or_not}
use Rattle.ranges.specs.Calls.{Inside}
use Rattle.ranges.specs.Private.{ClosedNext, Appended, Joined, Carried, Step, Stepped, Merged, finishing, Finished, turning, Turns, Turned, Shared}

-- nothing is done, and one thing after another
pub nothing_done : {w v : List ℕ} → v ≡ w → Inside w v
nothing_done {w} e = subst (Inside w) (sym e) (record { long = refl; beyond = λ i l. refl })

pub done_then : {w v x : List ℕ} → Inside w v → Inside v x → Inside w x
done_then a b = record { long = b.long ∙ a.long; beyond = λ i l. b.beyond i l ∙ a.beyond i l }

-- only words of the header
pub header_inside : {w v : List ℕ} → SameLanes w v → Inside w v
header_inside s = record { long = s.long; beyond = λ i l. s.words i (omega arith) }

-- only words of a lane, which ends inside
pub within_inside : {written : Kind → Bool} {k : Lane} {end : Held} {w v : List ℕ} → Within written k end w v → end.0 ≤ 8207 → Inside w v
within_inside a l = record { long = a.long; beyond = λ i b. a.beyond i (omega arith) }

pub appended_inside : {w v : List ℕ} {e r : Extent} {p : Position} {x : ℕ} → Appended w v e p x r → Inside w v
appended_inside {w} {e = e} a = ⊎_elim
    (λ (r : Room w e.capacity.0). within_inside a.within r.few)
    (λ (n : Room w e.capacity.0 → ⊥). nothing_done (a.idle (λ s. n s.room)).0)
    (room_or_not w e.capacity.0)

pub released_inside : {w v : List ℕ} (k : Lane) (rows g : Held) → Released w v k rows g → Inside w v
released_inside {w} k rows g a = ⊎_elim
    (λ (r : Room w rows.0). elim (lower_or_not g rows) [
      | inl l ↦ subst (Inside w) (sym (a.done r l)) (within_inside (release_within w k rows g l) r.few)
      | inr l ↦ nothing_done (a.idle (λ b c. omega arith))
    ])
    (λ (n : Room w rows.0 → ⊥). nothing_done (a.idle (λ b c. n b)))
    (room_or_not w rows.0)

pub next_inside : {w v : List ℕ} {p : Position} → ClosedNext w v p → Inside w v
next_inside {w} {v} q = go q.found refl
  where
    go : (r : Option Held) → q.found ≡ r → Inside w v
    go (Some g) z = released_inside (extent_of w Next).lane (extent_of w Next).rows g (q.closed g z)
    go None z = nothing_done (q.lost z)

pub joined_inside : {w v : List ℕ} {role : Role} {p : Position} {x : ℕ} → Joined w v role p x → Inside w v
joined_inside {w} {role = role} a = subst (Inside w) (sym a.done) (done_then (appended_inside a.appended) (header_inside (puts_lanes (rows_puts role a.grown.rows a.grown.height) a.words (rows_in_header role a.grown.rows a.grown.height))))

carried_inside : {w v : List ℕ} {e : Extent} {h : Held} {x : ℕ} → Carried w v e h x → Inside w v
carried_inside {w} {v} {e} {h} a = ⊎_elim
    (λ (r : Room w e.rows.0). elim (lower_or_not h e.rows) [
      | inl l ↦ elim (ℕ_discrete (mark_word w e.lane h % 2) 0) [
        | yes c ↦ nothing_done (a.closed c)
        | no c ↦ joined_inside (a.active r l c)
      ]
      | inr l ↦ nothing_done (a.idle (λ r₁ b. omega arith))
    ])
    (λ (n : Room w e.rows.0 → ⊥). nothing_done (a.idle (λ r b. n r)))
    (room_or_not w e.rows.0)

step_inside : {w v : List ℕ} (role : Role) → Step w v role → Inside w v
step_inside {w} role d =
    let h = after (left_of w role) in
    subst (Inside w) (sym d.done) (done_then (carried_inside d.carried) (header_inside (puts_lanes (left_puts role h d.run) d.words (left_in_header role h d.run))))

stepped_inside : {w v : List ℕ} (role : Role) → Stepped w v role → Inside w v
stepped_inside {w} role a = elim (lower_or_not (left_of w role) (extent_of w role).rows) [
  | inl l ↦ ⊎_elim
      (λ (r : Room w (extent_of w role).height.0). elim (under_or_not (run_of w role) (extent_of w role).height) [
        | inl t ↦ step_inside role (a.done l r t)
        | inr t ↦ nothing_done (a.idle (λ b c d. omega arith))
      ])
      (λ (n : Room w (extent_of w role).height.0 → ⊥). nothing_done (a.idle (λ b c d. n c)))
      (room_or_not w (extent_of w role).height.0)
  | inr l ↦ nothing_done (a.idle (λ b c d. omega arith))
]

pub merged_inside : {w v : List ℕ} → Merged w v → Inside w v
merged_inside {w} a = elim (lower_or_not (left_of w Older) (extent_of w Older).rows) [
  | inl l ↦ stepped_inside Older (a.older l)
  | inr l ↦ stepped_inside Younger (a.younger l)
]

pub finished_inside : {w v : List ℕ} → Finished w v → Inside w v
finished_inside {w} a = elim (lower_or_not (left_of w Older) (extent_of w Older).rows) [
  | inl l ↦ nothing_done (a.waits (inl l))
  | inr l ↦ elim (lower_or_not (left_of w Younger) (extent_of w Younger).rows) [
    | inl b ↦ nothing_done (a.waits (inr b))
    | inr b ↦ subst (Inside w) (sym (a.done l b)) (header_inside (puts_lanes (finishing w) w refl))
  ]
]

pub turned_inside : {w v : List ℕ} {active : ℕ} {p : Position} → Turned w v active p → Inside w v
turned_inside {w} {v} {active} {p} a = ⊎_elim
    (λ (t : Turns w active). subst (Inside w) (sym (a.done t)) (header_inside (puts_lanes (turning w active p) w refl)))
    (λ (n : Turns w active → ⊥). nothing_done (a.idle n))
    turns_or_not
  where
    turns_or_not : Turns w active ⊎ (Turns w active → ⊥)
    turns_or_not = elim (dec_lt active 4096) [
      | no f ↦ inr (λ t. f t.few)
      | yes f ↦ elim (lower_or_not (extent_of w Active).rows (extent_of w Active).capacity) [
        | inl c ↦ inr (λ t. omega (arith, t.full))
        | inr c ↦ elim (lower_or_not row₀ (extent_of w Younger).rows) [
          | inl y ↦ inr (λ t. omega (arith, t.free))
          | inr y ↦ elim (dec_lt 8207 (extent_of w Older).rows.0) [
            | yes o ↦ inr (λ t. omega (arith, t.older))
            | no o ↦ elim (dec_lt 8207 (extent_of w Active).rows.0) [
              | yes r ↦ inr (λ t. omega (arith, t.rows))
              | no r ↦ inl (record { few = f; full = c; free = y; older = omega (arith, o); rows = omega (arith, r) })
            ]
          ]
        ]
      ]
    ]

pub shared_inside : {w v : List ℕ} → Shared w v → Inside w v
shared_inside {w} a = elim (lower_or_not row₀ (extent_of w Younger).rows) [
  | inr e ↦ nothing_done (a.idle e)
  | inl e ↦ let d = a.done e in done_then (merged_inside d.first) (done_then (merged_inside d.second) (finished_inside d.last))
]
