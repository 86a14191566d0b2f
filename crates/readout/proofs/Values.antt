-- Values that are followed. Before each value the calls made so far are those of the values before it, made in turn, and what is left of the bytes begins with it.
use mathlib.Core.Path.{◌≡◌, refl, sym, ap, ◌∙◌}
use mathlib.Core.List.{List, [], ◌∷◌, ◌++◌}
use Prim.Native.Nat.{ℕ, ◌+◌, ◌*◌, ◌-◌, ◌≤◌}
use native.Mathlib.Numerals.{add-one}
use native.Mathlib.Omega.{arith}
use lib.ListN.{length, take, drop, length-append, length-drop}
use lib.Seq.{take_all, take-append_seam, drop-append_seam, drop-drop}
use lib.IntN.{ℤ}
use Rattle.history.specs.Replies.{Told, acceptances}
use Rattle.history.proofs.Acceptances.{acceptances_more}
use Rattle.numbers.specs.FourBytes.{value_at, values_from}
use Rattle.numbers.proofs.Values.{values_more}
use Rattle.window.specs.declared.Window.{Window}
use Rattle.window.specs.Windows.{model}
use Rattle.window.specs.Claim.{Answered}
use Rattle.window.specs.Calls.{Does}
use Rattle.text.specs.declared.Page.{Page}
use Rattle.following.specs.declared.Progress.{Progress}
use Rattle.following.proofs.Following.{followed_start, followed_more}
use Rattle.readout.specs.Lines.{value_line}
use Rattle.readout.specs.Private.{Performs, Follows}

-- what holds with `rest` left of the bytes, of a following from the session s and the words `before`
pub record Reached (bytes before : List ℕ) (s : Window) (page : Page) (rest words : List ℕ) (written : Page) (progress : Progress Window) : Type 0 where
  pub left : rest ≡ drop (8 + 4 * progress.read) bytes
  pub within : 8 + 4 * progress.read ≤ length bytes
  pub long : length words ≡ length before
  pub follows : Follows s (values_from progress.read 8 bytes) before words page written progress
  pub fits : written.used ≤ page.used + 33 * progress.read

-- no value yet
pub reached_start : {bytes before rest : List ℕ} {s : Window} {page : Page} {r : Progress Window} → r.session ≡ s → r.read ≡ 0 → r.accepted ≡ 0 → 8 ≤ length bytes
    → rest ≡ take (length bytes - 8) (drop 8 bytes) → Reached bytes before s page rest before page r
unfolding values_from
reached_start {bytes} {before} {page = page} {r} i e f l o = record {
  left = o ∙ take_all (length bytes - 8) (drop 8 bytes) (omega (arith, length-drop 8 bytes)) ∙ ap (λ (n : ℕ). drop (8 + 4 * n) bytes) (sym e);
  within = omega arith;
  long = refl;
  follows =
      let none : values_from r.read 8 bytes ≡ [] = ap (λ (n : ℕ). values_from n 8 bytes) e in
      rw (none, ← i) (followed_start model (Answered Does) (λ (n : ℕ) (v : ℤ) (t : Told). value_line n t) acceptances before page e f);
  fits = omega arith;
}

-- one value more, of the next four bytes
pub reached_more : {bytes before words after rest behind : List ℕ} {s : Window} {page written printed : Page} {progress r : Progress Window} {v : ℤ} (four : List ℕ)
    → Reached bytes before s page rest words written progress → rest ≡ four ++ behind → length four ≡ 4 → v ≡ value_at four 0
    → Performs progress v words after written printed r → length after ≡ length words → printed.used ≤ written.used + 33
    → Reached bytes before s page behind after printed r
reached_more {bytes} {before} {rest = rest} {behind} {page = page} {progress = progress} {r} {v} four u e long is o same few =
    let n : ℕ = progress.read in
    let left : drop (8 + 4 * n) bytes ≡ four ++ behind = sym u.left ∙ e in
    let front : take 4 four ≡ take 4 (drop (8 + 4 * n) bytes) = take_all 4 four (omega arith) ∙ sym (rw left (rw (← long) (take-append_seam four behind))) in
    let value : v ≡ value_at bytes (8 + 4 * n) = is ∙ rw front in
    let on : 8 + 4 * n + length four ≡ 8 + 4 * r.read = omega (arith, o.read) in
    record {
      left = sym (ap (λ (k : ℕ). drop k bytes) (sym on) ∙ sym (drop-drop (length four) (8 + 4 * n) bytes) ∙ ap (drop (length four)) left ∙ drop-append_seam four behind);
      within = omega (arith, o.read, u.within, ap length left, length-append four behind, length-drop (8 + 4 * n) bytes);
      long = same ∙ u.long;
      follows =
          let more : values_from r.read 8 bytes ≡ values_from n 8 bytes ++ (v ∷ []) =
          ap (λ (k : ℕ). values_from k 8 bytes) (o.read ∙ add-one n) ∙ values_more n 8 bytes ∙ ap (λ (x : ℤ). values_from n 8 bytes ++ (x ∷ [])) (sym value) in
          rw more (followed_more model (Answered Does) (λ (n : ℕ) (v : ℤ) (t : Told). value_line n t) acceptances acceptances_more u.follows o);
      fits = omega (arith, o.read, u.fits, few);
    }
