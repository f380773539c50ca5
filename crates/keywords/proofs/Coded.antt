-- Keywords as a deck has them, written one after another. Assumes nothing.
use Prim.Native.Nat.{ℕ, ◌+◌, ◌/◌, ◌%◌}
use native.Mathlib.Omega.{arith}
use mathlib.Core.Bool.{true}
use mathlib.Core.Path.{◌≡◌, refl, ap, sym, ◌∙◌}
use mathlib.Core.List.{List, [], ◌∷◌, ◌++◌, map, append_assoc, append-nil}
use lib.ListN.{length, length-append}
use Rattle.text.specs.Bytes.{Bytes}
use Rattle.rules.specs.Lexemes.{lexed}
use Rattle.rules.specs.Library.{keyword_names}
use Rattle.deck.specs.Coding.{byte, two, pair, put_all, list_of}
use Rattle.deck.specs.Coders.{string}
use Rattle.lent.specs.Splice.{splice}
use Rattle.lent.proofs.Writes.{splice-append}
use Rattle.keywords.specs.Keywords.{keyword_in, keywords_code}
use Rattle.keywords.proofs.Parameters.{keywords-first}

-- one text behind another
pub then-written : (out : Bytes) (at : ℕ) (s t : Bytes) {first second : Bytes} {next : ℕ} → first ≡ splice out at s → next ≡ at + length s → second ≡ splice first next t
    → second ≡ splice out at (s ++ t)
then-written out at s t e n f = f ∙ ((λ i. splice (e i) (n i) t) ∙ splice-append out at s t)

-- ---- a text behind its length

abbrev pub two_bytes : ℕ → Bytes
two_bytes n = n / 256 % 256 ∷ (n % 256 ∷ [])

bytes-put : (s : Bytes) → put_all byte s ≡ s
unfolding put_all byte
bytes-put [] = refl
bytes-put (b ∷ s) = ap (b ∷◌) (bytes-put s)

pub string-code : (s : Bytes) → string.put s ≡ two_bytes (length s) ++ s
unfolding string list_of two
string-code s = ap (two_bytes (length s) ++◌) (bytes-put s)

pub string-length : (s : Bytes) → length (string.put s) ≡ 2 + length s
string-length s = ap length (string-code s) ∙ (length-append (two_bytes (length s)) s ∙ refl)

-- ---- keywords

pub no-code : keywords_code [] ≡ []
unfolding keywords_code put_all
no-code = refl

pub one_code : (n d : Bytes) → keywords_code ((n, d) ∷ []) ≡ string.put n ++ string.put d
unfolding keywords_code put_all pair
one_code n d = append-nil (string.put n ++ string.put d)

pub one-length : {ks : List (Bytes × Bytes)} (n d : Bytes) → ks ≡ (n, d) ∷ [] → length (keywords_code ks) ≡ 2 + length n + (2 + length d)
one-length n d e =
    ap (λ (l : List (Bytes × Bytes)). length (keywords_code l)) e ∙ (ap length (one_code n d) ∙ (length-append (string.put n) (string.put d) ∙ (λ i. string-length n i + string-length d i)))

-- no keyword, no byte
pub nothing_written : (out : Bytes) (at : ℕ) {ks : List (Bytes × Bytes)} → ks ≡ [] → (at ≡ at + length (keywords_code ks)) × (out ≡ splice out at (keywords_code ks))
unfolding splice
nothing_written out at e =
    let n = ap keywords_code e ∙ no-code in
    let z = ap length n in
    (omega (arith, z), sym (ap (splice out at) n))

code-append : (ks ls : List (Bytes × Bytes)) → keywords_code (ks ++ ls) ≡ keywords_code ks ++ keywords_code ls
unfolding keywords_code put_all
code-append [] ls = refl
code-append (k ∷ ks) ls = ap ((pair string string).put k ++◌) (code-append ks ls) ∙ sym (append_assoc ((pair string string).put k) (keywords_code ks) (keywords_code ls))

-- the first part's keyword and those of the others
module _ (p : Bytes) {ps qs : List Bytes} (e : ps ≡ p ∷ qs) where
  abbrev first : Bytes
  first = keywords_code (keyword_in p)

  abbrev others : Bytes
  others = keywords_code (keyword_names (map (lexed true) qs))

  code-on : keywords_code (keyword_names (map (lexed true) ps)) ≡ first ++ others
  code-on =
      ap (λ (rs : List Bytes). keywords_code (keyword_names (map (lexed true) rs))) e
      ∙ (ap keywords_code (keywords-first p qs) ∙ code-append (keyword_in p) (keyword_names (map (lexed true) qs)))

  pub code-size : length (keywords_code (keyword_names (map (lexed true) ps))) ≡ length first + length others
  code-size = ap length code-on ∙ length-append first others

  -- finishing behind the first part's keyword writes what finishing before it does
  pub code-splice : (out : Bytes) (to : ℕ) {new : Bytes} {next : ℕ} → next ≡ to + length first → new ≡ splice out to first
      → splice new next others ≡ splice out to (keywords_code (keyword_names (map (lexed true) ps)))
  code-splice out to n w = (λ i. splice (w i) (n i) others) ∙ (splice-append out to first others ∙ ap (splice out to) (sym code-on))

-- ---- behind their count

pub counted-code : (ks : List (Bytes × Bytes)) → (list_of (pair string string)).put ks ≡ two_bytes (length ks) ++ keywords_code ks
unfolding list_of two keywords_code
counted-code ks = refl

pub counted-length : (ks : List (Bytes × Bytes)) → length ((list_of (pair string string)).put ks) ≡ 2 + length (keywords_code ks)
counted-length ks = ap length (counted-code ks) ∙ length-append (two_bytes (length ks)) (keywords_code ks)
