-- The laws of frames: nothing written, one word of a lane written, one written after another, and a word of the header.
use mathlib.Core.Path.{◌≡◌, refl, sym, ap, ◌∙◌}
use mathlib.Core.Bool.{Bool, true}
use mathlib.Core.List.{List}
use Prim.Native.Nat.{ℕ, ◌+◌, ◌*◌, ◌%◌, ◌<◌}
use native.Mathlib.Omega.{arith}
use lib.ListN.{set, length-set}
use lib.Seq.{get_or-set_other}
use Rattle.laws.proofs.Tests.{clash}
use Rattle.layout.specs.declared.Held.{Held}
use Rattle.layout.specs.declared.Lane.{Lane}
use Rattle.layout.specs.Words.{base_of}
use Rattle.layout.specs.Frames.{Kind, kind_of, Same, SameLane, SameLanes, Within}

-- where each word of a lane stands: two that stand at one index are one
pub same_lane : (j k : Lane) (n m f g : ℕ) → f < 8 → g < 8 → base_of j + 32 * n + f ≡ base_of k + 32 * m + g → j.0 % 4 ≡ k.0 % 4
same_lane j k n m f g l o e = omega arith

pub same_row : (j k : Lane) (n m f g : ℕ) → f < 8 → g < 8 → base_of j + 32 * n + f ≡ base_of k + 32 * m + g → n ≡ m
same_row j k n m f g l o e = omega arith

pub same_word : (j k : Lane) (n m f g : ℕ) → f < 8 → g < 8 → base_of j + 32 * n + f ≡ base_of k + 32 * m + g → f ≡ g
same_word j k n m f g l o e = omega arith

module _ (written : Kind → Bool) (k : Lane) (end : Held) where
  -- nothing is written
  pub untouched : (w : List ℕ) → Within written k end w w
  untouched w = record { long = refl; header = λ i l. refl; others = λ j o. record { words = λ n f l. refl }; kinds = λ kind e. record { words = λ n f l q. refl }; beyond = λ i l. refl }

  -- one word is written
  pub wrote : (w : List ℕ) (n f x : ℕ) → f < 8 → n < end.0 → written (kind_of f) ≡ true → Within written k end w (set w (base_of k + 32 * n + f) x)
  wrote w n f x l m e = record {
    long = length-set w (base_of k + 32 * n + f) x;
    header = λ i b. get_or-set_other w (base_of k + 32 * n + f) i x 0 (λ q. omega arith);
    others = λ j o. record {
      words = λ r g b. get_or-set_other w (base_of k + 32 * n + f) (base_of j + 32 * r + g) x 0 (λ q. o (same_lane j k r n g f b l q));
    };
    kinds = λ kind u. record {
      words = λ r g b s. get_or-set_other w (base_of k + 32 * n + f) (base_of k + 32 * r + g) x 0
          (λ q. clash e (ap (λ (i : ℕ). written (kind_of i)) (sym (same_word k k r n g f b l q)) ∙ ap written s ∙ u));
    };
    beyond = λ i b. get_or-set_other w (base_of k + 32 * n + f) i x 0 (λ q. omega arith);
  }

  -- one after another
  pub and_then : {w v x : List ℕ} → Within written k end w v → Within written k end v x → Within written k end w x
  and_then a b = record {
    long = b.long ∙ a.long;
    header = λ i l. b.header i l ∙ a.header i l;
    others = λ j o. record { words = λ n f l. (b.others j o).words n f l ∙ (a.others j o).words n f l };
    kinds = λ kind e. record { words = λ n f l q. (b.kinds kind e).words n f l q ∙ (a.kinds kind e).words n f l q };
    beyond = λ i l. b.beyond i l ∙ a.beyond i l;
  }

-- a word of the header is written: no lane's words are
pub wrote_header : (w : List ℕ) (i x : ℕ) → i < 32 → SameLanes w (set w i x)
wrote_header w i x l = record { long = length-set w i x; words = λ j m. get_or-set_other w i j x 0 (λ e. omega arith) }

pub lanes_stay : (w : List ℕ) → SameLanes w w
lanes_stay w = record { long = refl; words = λ i l. refl }

pub lanes_then : {w v x : List ℕ} → SameLanes w v → SameLanes v x → SameLanes w x
lanes_then a b = record { long = b.long ∙ a.long; words = λ i l. b.words i l ∙ a.words i l }

-- the words of all lanes are those of each
pub each_lane : {w v : List ℕ} → SameLanes w v → (k : Lane) → SameLane k w v
each_lane s k = record { words = λ n f l. s.words (base_of k + 32 * n + f) (omega arith) }

-- a lane stays the same twice
pub lane_then : {k : Lane} {w v x : List ℕ} → SameLane k w v → SameLane k v x → SameLane k w x
lane_then a b = record { words = λ n f l. b.words n f l ∙ a.words n f l }

-- a lane that is the same has the same words of each kind
pub each_kind : {k : Lane} {w v : List ℕ} → SameLane k w v → (kind : Kind) → Same kind k w v
each_kind s kind = record { words = λ n f l e. s.words n f l }

-- a lane whose words stay
pub lane_stays : (k : Lane) (w : List ℕ) → SameLane k w w
lane_stays k w = record { words = λ n f l. refl }
