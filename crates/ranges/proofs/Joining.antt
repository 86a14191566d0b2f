-- A MARK of words that hold a history: the turn, if the active lane is full, and the mark's row.
use mathlib.Core.Path.{◌≡◌, refl, sym, ap, subst, ◌∙◌}
use mathlib.Core.List.{List, [], ◌∷◌, ◌++◌, append-nil, append_assoc}
use mathlib.Core.Logic.{◌⊎◌, inl, inr, ⊎_elim}
use native.Mathlib.Decide.{ℕ_discrete}
use Prim.Native.Nat.{ℕ, ◌+◌, ◌*◌, ◌<◌, ◌≤◌}
use native.Mathlib.Omega.{arith}
use lib.ListN.{length, length-append}
use Rattle.history.specs.declared.Position.{Position}
use Rattle.history.specs.Minimum.{Minimum}
use Rattle.history.specs.declared.Standing.{Standing}
use Rattle.history.specs.declared.Standing.TheVariants.{Unmarked, Marked}
use Rattle.history.specs.declared.Event.{Event}
use Rattle.history.specs.declared.Command.TheVariants.{Mark}
use Rattle.history.specs.Minima.{stands_at, last_of, minimum}
use Rattle.history.specs.Standings.{transition_of}
use Rattle.history.specs.Histories.{History, present_of, accept}
use Rattle.history.specs.Sound.{Sound}
use Rattle.history.proofs.Lowest.{minimum_new}
use Rattle.runs.specs.Runs.{AsLent}
use Rattle.layout.specs.declared.Held.{Held}
use Rattle.layout.specs.declared.Lane.{Lane}
use Rattle.layout.specs.declared.Extent.{Extent}
use Rattle.layout.specs.declared.Role.TheVariants.{Active}
use Rattle.layout.specs.Words.{Earlier, NotLater, Lower, NotHigher, after, row₀, position, extent_of, Room, Put, puts, rows_puts}
use Rattle.layout.specs.Frames.{SameLane, SameLanes, Other}
use Rattle.layout.specs.Frames as Frames
use Rattle.layout.proofs.Order.{lower_or_not}
use Rattle.layout.proofs.Written.{each_lane, each_kind, lane_then}
use Rattle.layout.proofs.Puts.{puts_lanes}
use Rattle.table.specs.Marks.{After, active_below}
use Rattle.table.proofs.Kept.{active_same, position_same}
use Rattle.packing.specs.Packing.{packed, unpacked, Faithful}
use Rattle.ranges.specs.Holding.{upcoming, Roles, roles_of, marks_in, Laid, Started, Unfinished, Soon, Holds}
use Rattle.ranges.specs.Private.{Grows, Appended, size_for, turning, Turns, Turned, Shared}
use Rattle.ranges.proofs.Lanes.{lane_same}
use Rattle.ranges.proofs.Header.{roles_put, roles_same, with_active}
use Rattle.ranges.proofs.Bounds.{merged_inside}
use Rattle.ranges.proofs.Moved.{laid_active}
use Rattle.ranges.proofs.Turning.{turned_laid}
use Rattle.ranges.proofs.Upkeep.{holds_by}
use Rattle.ranges.proofs.Marking.{laid_more, Going, going_row, going_end}

-- the capacity of a lane for c active marks and so many rows that are left: enough for these, and below the bound
size_enough : (c left : ℕ) → left ≤ 2 * size_for c left
size_enough c left = omega arith

size_some : (c left : ℕ) → 0 < size_for c left
size_some c left = omega arith

size_below : (c o a l m : ℕ) → c + 1 ≤ m → o ≤ l → a ≤ 15 + 2 * l → l ≤ m → size_for c (o + a) ≤ 15 + 2 * m
size_below c o a l m x y z t = omega arith

-- the words when the active lane has a row to spare: the values and marks are the history's, and the bound is that of one mark more
pub record Ready (h : History) (first w : List ℕ) (l : ℕ) : Type 0 where
  pub laid : Laid (roles_of w) w h.values l
  pub spare : Lower (roles_of w).active.rows (roles_of w).active.capacity
  pub begun : Started (roles_of w) w ⊎ (((roles_of w).active.rows.0 ≡ 0) × ((roles_of w).start ≡ present_of h))
  pub unfinished : Unfinished (roles_of w)
  pub soon : Soon (roles_of w) 0
  pub marks : marks_in w (roles_of w).older ++ (marks_in w (roles_of w).younger ++ marks_in w (roles_of w).active) ≡ h.active
  pub fresh : After w (roles_of w).active.lane (roles_of w).active.rows (present_of h)
  pub rest : AsLent (512 + 64 * l) first w

-- so they are if the roles that their header gives are
ready_by : {h : History} {first v : List ℕ} {l : ℕ} {s : Roles} → roles_of v ≡ s → Laid s v h.values l → Lower s.active.rows s.active.capacity
    → Started s v ⊎ ((s.active.rows.0 ≡ 0) × (s.start ≡ present_of h)) → Unfinished s → Soon s 0
    → marks_in v s.older ++ (marks_in v s.younger ++ marks_in v s.active) ≡ h.active → After v s.active.lane s.active.rows (present_of h) → AsLent (512 + 64 * l) first v
    → Ready h first v l
ready_by {h} {first} {v} {l} e laid spare begun unfinished soon marks fresh rest = record {
  laid = subst (λ (s : Roles). Laid s v h.values l) (sym e) laid;
  spare = subst (λ (s : Roles). Lower s.active.rows s.active.capacity) (sym e) spare;
  begun = subst (λ (s : Roles). Started s v ⊎ ((s.active.rows.0 ≡ 0) × (s.start ≡ present_of h))) (sym e) begun;
  unfinished = subst Unfinished (sym e) unfinished;
  soon = subst (λ (s : Roles). Soon s 0) (sym e) soon;
  marks = subst (λ (s : Roles). marks_in v s.older ++ (marks_in v s.younger ++ marks_in v s.active) ≡ h.active) (sym e) marks;
  fresh = subst (λ (s : Roles). After v s.active.lane s.active.rows (present_of h)) (sym e) fresh;
  rest = rest;
}

module _ (h : History) (first w : List ℕ) (active : ℕ) (p : Position) (y : Sound h) (k : Holds h first w) (unmarked : h.standing ≡ Unmarked) (count : length h.active ≡ active)
    (free : active < h.limit) (own : length w ≡ h.words) (some : 32 ≤ length w) (here : p ≡ present_of h) where
  abbrev s : Roles
  s = roles_of w

  abbrev l : ℕ
  l = (accept h Mark).history.peak

  more : (active + 1 ≤ l) × (h.peak ≤ l) × (l ≤ h.limit)
  more =
      let n = length-append h.active (present_of h ∷ []) in
      (omega (arith, n), omega arith, omega (arith, n, y.limited, y.peaked))

  wide : 512 + 64 * h.limit ≤ length w
  wide = omega (arith, y.wide (λ z. omega arith))

  -- THE TURN
  module _ {v : List ℕ} (q : Turned w v active p) where
    -- there is a row to spare
    stays : Lower s.active.rows s.active.capacity → Ready h first v l
    stays b =
        subst (λ (x : List ℕ). Ready h first x l) (sym (q.idle (λ t. omega (arith, t.full))))
        (ready_by refl (laid_more more.1 k.laid) b (inl k.started) k.unfinished k.soon k.marks (k.fresh unmarked) (λ i c. k.rest i (omega (arith, more.1))))

    module _ (n : NotHigher s.active.capacity s.active.rows) where
      full : s.active.rows.0 ≡ s.active.capacity.0
      full = omega (arith, k.laid.active.linked.full)

      -- then the merge is done
      none : NotHigher s.younger.rows row₀
      none = elim (lower_or_not row₀ s.younger.rows) [
        | inr z ↦ z
        | inl z ↦ absurd (omega (arith, full, k.unfinished z, k.soon z, k.laid.merging.older_some))
      ]

      empty : marks_in w s.younger ≡ []
      empty = let e : s.younger.rows.0 ≡ 0 = omega (arith, none) in ap (active_below w s.younger.lane) e

      both : marks_in w s.older ++ marks_in w s.active ≡ h.active
      both = ap (λ (ps : List Position). marks_in w s.older ++ (ps ++ marks_in w s.active)) (sym empty) ∙ k.marks

      counted : length (marks_in w s.older) + length (marks_in w s.active) ≡ active
      counted = sym (length-append (marks_in w s.older) (marks_in w s.active)) ∙ ap length both ∙ count

      abbrev size : ℕ
      size = size_for active (s.older.rows.0 + s.active.rows.0)

      size_fits : size ≤ 15 + 2 * l
      size_fits = size_below active s.older.rows.0 s.active.rows.0 h.peak l more.0 k.laid.older_few (omega (arith, full, k.laid.active_below)) more.1

      turns : Turns w active
      turns = record {
        few = omega (arith, y.few);
        full = n;
        free = none;
        older = omega (arith, k.laid.older_few, y.limited, y.few);
        rows = omega (arith, full, k.laid.active.linked.room.few);
      }

      room : (c : ℕ) → c ≤ 15 + 2 * l → Room (puts (turning w active p) w) c
      room c b = record { few = omega (arith, more.2, y.few); wide = omega (arith, more.2, wide, (puts_lanes (turning w active p) w refl).long) }

      ready_turned : Ready h first (puts (turning w active p) w) l
      ready_turned =
          let lanes = puts_lanes (turning w active p) w refl in
          ready_by (roles_put (turning w active p) w refl some)
          (turned_laid p (record { 0 = size }) (record { 0 = 2 * active + 17 }) k.laid lanes full none k.started (ap (λ (q : Position). q.0) here)
          (subst (After w s.active.lane s.active.rows) (sym here) (k.fresh unmarked)) counted more.0 more.1 refl (size_enough active (s.older.rows.0 + s.active.rows.0))
          (size_some active (s.older.rows.0 + s.active.rows.0)) size_fits (room size size_fits) (room (2 * active + 17) (omega (arith, more.0))))
          (size_some active (s.older.rows.0 + s.active.rows.0)) (inr (refl, here)) (λ z. z)
          (λ z. omega (arith, size_enough active (s.older.rows.0 + s.active.rows.0)))
          ((λ j. active_same (each_kind (each_lane lanes s.older.lane) Frames.row) s.older.rows.0 j ++ (active_same (each_kind (each_lane lanes s.active.lane) Frames.row) s.active.rows.0 j ++ []))
          ∙ ap (λ (ps : List Position). marks_in w s.older ++ ps) (append-nil (marks_in w s.active)) ∙ both)
          (λ g b. absurd (omega arith)) (λ i c. lanes.words i (omega arith) ∙ k.rest i (omega (arith, more.1)))

    pub ready : Ready h first v l
    ready = elim (lower_or_not s.active.rows s.active.capacity) [
      | inl b ↦ stays b
      | inr n ↦ subst (λ (x : List ℕ). Ready h first x l) (sym (q.done (turns n))) (ready_turned n)
    ]

  -- THE MARK'S ROW: x are the words after it is appended, and z after the header is written
  module _ {u x : List ℕ} {r : Extent} {word : ℕ} {m : Minimum} (a : Ready h first u l) (long : length u ≡ length w) (q : Appended u x (extent_of u Active) p word r)
      (is : m ≡ stands_at (last_of h.values) p) (packs : word ≡ packed m) (back : unpacked word ≡ m) where
    abbrev t : Roles
    t = roles_of u

    abbrev ps : List Put
    ps = rows_puts Active r.rows r.height

    abbrev z : List ℕ
    z = puts ps x

    present : p.0 ≡ length h.values
    present = ap (λ (i : Position). i.0) here

    minimum_is : m ≡ minimum h.values p
    minimum_is = is ∙ ap (stands_at (last_of h.values)) here ∙ sym (minimum_new h.values) ∙ ap (minimum h.values) (sym here)

    grows : Grows u x t.active r h.values p
    grows =
        q.grows h.values a.laid.active a.spare (subst (After u t.active.lane t.active.rows) (sym here) a.fresh) (omega (arith, present, y.some unmarked)) (omega (arith, present))
        (packs ∙ ap packed minimum_is) (subst Faithful minimum_is (ap unpacked (sym packs) ∙ back))

    rows_more : r.rows ≡ after t.active.rows
    rows_more = q.more (record { room = a.laid.active.linked.room; row = a.spare; high = a.laid.active.stacked.low })

    sames : SameLanes x z
    sames = puts_lanes ps x refl

    total : length z ≡ length u
    total = sames.long ∙ q.within.long

    stay : (j : Lane) → Other j t.active.lane → SameLane j u z
    stay j o = lane_then (q.within.others j o) (each_lane sames j)

    sy : SameLane t.younger.lane u z
    sy = stay t.younger.lane (λ e. a.laid.apart.ay (sym e))

    so : SameLane t.older.lane u z
    so = stay t.older.lane (λ e. a.laid.apart.ao (sym e))

    sn : SameLane t.next.lane u z
    sn = stay t.next.lane (λ e. a.laid.apart.an (sym e))

    roles_then : roles_of z ≡ with_active t r
    roles_then =
        roles_put ps x refl (omega (arith, q.within.long))
        ∙ (λ j. with_active (roles_same u x q.within.header j) (record {
          lane = ((λ i. record { 0 = q.within.header 0 (omega arith) i }) ∙ sym q.same.0) j;
          rows = r.rows;
          capacity = ((λ i. record { 0 = q.within.header 2 (omega arith) i }) ∙ sym q.same.1) j;
          height = r.height;
        }))

    -- the positions of the rows
    position_then : (g : Held) → position z t.active.lane g ≡ position x t.active.lane g
    position_then = position_same (each_kind (each_lane sames t.active.lane) Frames.row)

    spans : (g : Held) → Lower g r.rows → NotLater t.start (position z r.lane g) × Earlier (position z r.lane g) (upcoming h.values)
    spans g b = subst (λ (k : Lane). NotLater t.start (position z k g) × Earlier (position z k g) (upcoming h.values)) (sym q.same.0)
        (elim (ℕ_discrete g.0 t.active.rows.0) [
          | yes e ↦
              let g-is : ◌≡◌ {A = Held} g t.active.rows = λ j. record { 0 = e j } in
              let at : position z t.active.lane g ≡ p = position_then g ∙ ap (position x t.active.lane) g-is ∙ grows.new in
              subst (λ (i : Position). NotLater t.start i × Earlier i (upcoming h.values)) (sym at) (omega (arith, present, a.laid.ends), omega (arith, present))
          | no e ↦
              let c : Lower g t.active.rows = omega (arith, ap (λ (i : Held). i.0) rows_more) in
              subst (λ (i : Position). NotLater t.start i × Earlier i (upcoming h.values)) (sym (position_then g ∙ grows.old g c)) (a.laid.in_active g c)
        ])

    starts : Started (with_active t r) z
    starts b = (
      omega (arith, ap (λ (i : Held). i.0) rows_more),
      subst (λ (k : Lane). position z k row₀ ≡ t.start) (sym q.same.0)
          (⊎_elim
          (λ (f : Started t u). let g = f b in position_then row₀ ∙ grows.old row₀ g.0 ∙ g.1)
          (λ (f : (t.active.rows.0 ≡ 0) × (t.start ≡ present_of h)).
          let zero : ◌≡◌ {A = Held} row₀ t.active.rows = λ j. record { 0 = sym f.0 j } in
          position_then row₀ ∙ ap (position x t.active.lane) zero ∙ grows.new ∙ here ∙ sym f.1)
          a.begun),
    )

    laid_then : Laid (with_active t r) z h.values l
    laid_then = laid_active r a.laid total sy so sn q.same.0 q.same.1 (λ n b. refl) (omega arith) (lane_same sames.long (each_lane sames r.lane) grows.holds) spans

    marks_then : marks_in z t.older ++ (marks_in z t.younger ++ marks_in z r) ≡ h.active ++ (present_of h ∷ [])
    marks_then =
        (λ j. active_same (each_kind so Frames.row) t.older.rows.0 j ++ (active_same (each_kind sy Frames.row) t.younger.rows.0 j
        ++ (active_same (each_kind (each_lane sames r.lane) Frames.row) r.rows.0 ∙ grows.marks) j))
        ∙ ap (λ (qs : List Position). marks_in u t.older ++ qs) (sym (append_assoc (marks_in u t.younger) (marks_in u t.active) (p ∷ [])))
        ∙ sym (append_assoc (marks_in u t.older) (marks_in u t.younger ++ marks_in u t.active) (p ∷ []))
        ∙ (λ j. a.marks j ++ (here j ∷ []))

    rest_then : AsLent (512 + 64 * l) first z
    rest_then i b = sames.words i (omega arith) ∙ q.within.beyond i (omega (arith, a.laid.active_below)) ∙ a.rest i b

    no_fresh : (accept h Mark).history.standing ≡ Unmarked → ⊥
    no_fresh e =
        let b : (accept h Mark).history.standing ≡ Marked = ap (λ (k : Standing). (transition_of Event.Mark k).after) unmarked in
        let c : ◌≡◌ {A = ℕ} 0 1 = cc in omega arith

    -- AND TWO ROWS OF THE MERGE
    pub joined_holds : {v : List ℕ} → Shared z v → Holds (accept h Mark).history first v
    joined_holds {v} g = elim (lower_or_not row₀ t.younger.rows) [
      | inr e ↦
          subst (Holds (accept h Mark).history first) (sym (g.idle (subst (λ (i : Roles). NotHigher i.younger.rows row₀) (sym roles_then) e)))
          (holds_by roles_then k.short laid_then starts a.unfinished (λ b. absurd (omega arith)) marks_then (λ b. absurd (no_fresh b)) rest_then)
      | inl e ↦
          let some : Lower row₀ (roles_of z).younger.rows = subst (λ (i : Roles). Lower row₀ i.younger.rows) (sym roles_then) e in
          let d = g.done some in
          let start : Going (accept h Mark).history first z 2 = record {
            laid = subst (λ (i : Roles). Laid i z h.values l) (sym roles_then) laid_then;
            started = subst (λ (i : Roles). Started i z) (sym roles_then) starts;
            some = some;
            soon = λ b. subst (λ (i : Roles). Soon i 2) (sym roles_then) (λ c. omega (arith, a.soon c, ap (λ (i : Held). i.0) rows_more, ap (λ (i : Held). i.0) q.same.1));
            marks = subst (λ (i : Roles). marks_in z i.older ++ (marks_in z i.younger ++ marks_in z i.active) ≡ h.active ++ (present_of h ∷ [])) (sym roles_then) marks_then;
            rest = rest_then;
          } in
          let one = going_row (accept h Mark).history first z (omega (arith, total, long)) k.short start d.first in
          let two = going_row (accept h Mark).history first d.one (omega (arith, total, long, (merged_inside d.first).long)) k.short one d.second in
          going_end (accept h Mark).history first d.two (omega (arith, total, long, (merged_inside d.first).long, (merged_inside d.second).long)) k.short two d.last no_fresh
    ]
