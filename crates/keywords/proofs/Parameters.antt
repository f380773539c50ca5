-- The positionals and the keywords of an operand's parts: those of one part, and what the first part says of all. Assumes nothing.
use Prim.Native.Nat.{ℕ, zero, suc, ◌+◌, ◌-◌, ◌≤◌, ◌<◌}
use native.Mathlib.Omega.{arith}
use mathlib.Core.Path.{◌≡◌, refl, ap, sym, ◌∙◌}
use mathlib.Core.Bool.{Bool, true, false}
use Rattle.std.specs.Bool.{⊤}
use Rattle.std.specs.Prelude.{Option, Some, None, is_some}
use Rattle.std.specs.Borrow.{Bor}
use mathlib.Core.List.{List, [], ◌∷◌, ◌++◌, map}
use lib.Dec.{leb, ltb}
use lib.ListN.{length, take, drop, length-append, length-take, length-drop}
use borrow.Author.Tests.{lt-ltb, le-ltb}
use Rattle.text.specs.Bytes.{Bytes}
use Rattle.rules.specs.Choice.{choose, count}
use Rattle.rules.specs.Lexemes.{comma, equals, byte, mark, ref, lone, lexed, unlexed}
use Rattle.rules.specs.Fields.{is_empty}
use Rattle.rules.specs.Calls.{divided, equals_at, has_equals}
use Rattle.rules.specs.Library.{start_symbol, start_symbols, with_default, positional_names, keyword_names}
use Rattle.rules.proofs.Choices.{chosen, passed_over, either}
use Rattle.parts.specs.Parts.{bare_at, parts_within, parts_from, parts_of}
use Rattle.parts.proofs.Divided.{divided-cut}
use Rattle.parts.proofs.Told.{default-bytes}
use Rattle.declared.proofs.Starts.{part-all}
use Rattle.declared.proofs.Keyword.{has-told}
use Rattle.operands.proofs.Rest.{Lexes}
use Rattle.declaring.specs.Declared.{symbols_in}
use Rattle.declaring.proofs.Symbols.{symbols-few}
use Rattle.declared.specs.Declared.{found}
use Rattle.keywords.specs.Keywords.{positional_in, keyword_in, keyword_found, keywords_in}

-- ---- one part

-- what was found is there where it is one, and not where it is none
pub symbol-there : (o : Option (Bor Bytes)) → is_some o ≡ ltb 0 (length (found o))
symbol-there None = refl
symbol-there (Some n) = sym (lt-ltb 0 1 (omega arith))

pub keyword-there : (o : Option (Bor Bytes × Bor Bytes)) → is_some o ≡ ltb 0 (length (keyword_found o))
keyword-there None = refl
keyword-there (Some k) = sym (lt-ltb 0 1 (omega arith))

module _ (p : Bytes) where
  pub keyword-no-positional : has_equals (lexed true p) ≡ true → positional_in p ≡ []
  unfolding positional_in
  keyword-no-positional h = chosen _ _ h

  pub positional-is : has_equals (lexed true p) ≡ false → positional_in p ≡ start_symbol (lexed true p)
  unfolding positional_in
  positional-is h = passed_over _ _ h

module _ (p : Bytes) (end : ℕ) (e : end ≡ 0 + bare_at equals p) where
  has : {b : Bool} → ltb end (length p) ≡ b → has_equals (lexed true p) ≡ b
  has f = has-told p end e ∙ f

  pub positional-no-keyword : length p ≤ end → [] ≡ keyword_in p
  unfolding keyword_in
  positional-no-keyword h = sym (passed_over _ _ (has (le-ltb end (length p) h)))

  module _ (h : end < length p) where
    pub keyword-none : [] ≡ start_symbol (lexed true p) → [] ≡ keyword_in p
    unfolding keyword_in with_default
    keyword-none s = sym
        (chosen _ _ (has (lt-ltb end (length p) h)) ∙ ap (λ (ns : List Bytes). with_default ns (unlexed (drop (suc (equals_at (lexed true p))) (lexed true p)))) (sym s))

    pub keyword-one : (n : Bytes) → n ∷ [] ≡ start_symbol (lexed true p) → (n, take (length p - (end + 1)) (drop (end + 1) p)) ∷ [] ≡ keyword_in p
    unfolding keyword_in with_default
    keyword-one n s =
        let k : suc (bare_at equals p) ≡ end + 1 = omega (arith, e) in
        let l : bare_at equals p < length p = omega (arith, e, h) in
        sym
        (chosen _ _ (has (lt-ltb end (length p) h))
        ∙ (ap (λ (ns : List Bytes). with_default ns (unlexed (drop (suc (equals_at (lexed true p))) (lexed true p)))) (sym s)
        ∙ ap (λ (d : Bytes). (n, d) ∷ []) (default-bytes p l ∙ (ap (λ (m : ℕ). drop m p) k ∙ sym (part-all p (end + 1))))))

with-few : (ns : List Bytes) (d : Bytes) → length (with_default ns d) ≤ length ns
unfolding with_default
with-few [] d = omega arith
with-few (n ∷ ns) d = omega arith

-- ---- all parts

few-keywords : (ps : List Lexes) → length (keyword_names ps) ≤ length (start_symbols ps)
unfolding keyword_names start_symbols
few-keywords [] = omega arith
few-keywords (p ∷ ps) =
    let k = choose (has_equals p) (with_default (start_symbol p) (unlexed (drop (suc (equals_at p)) p))) [] in
    let one : length k ≤ length (start_symbol p) =
    either (λ (l : List (Bytes × Bytes)). length l ≤ length (start_symbol p)) (has_equals p) (λ e. with-few (start_symbol p) (unlexed (drop (suc (equals_at p)) p))) (λ e. omega arith)
    in omega (arith, one, few-keywords ps, length-append k (keyword_names ps), length-append (start_symbol p) (start_symbols ps))

pub keywords-few : (s : Bytes) → length (keyword_names (divided (lexed true s))) ≤ length s
unfolding symbols_in
keywords-few s = omega (arith, few-keywords (divided (lexed true s)), symbols-few s)

-- a list of at most one element more for each
once : {A : Type 0} (l : List A) (n : ℕ) → length l ≤ 1 → choose (ltb 0 (length l)) (suc n) n ≡ length l + n
unfolding choose
once [] n h = omega arith
once (a ∷ l) n h = ap (λ (b : Bool). choose b (suc n) n) (lt-ltb 0 (suc (length l)) (omega arith)) ∙ omega (arith, h)

start-once : (p : Lexes) → length (start_symbol p) ≤ 1
unfolding start_symbol
start-once [] = omega arith
start-once (byte c ∷ x) = omega arith
start-once (mark ∷ x) = omega arith
start-once (ref n ∷ x) = omega arith
start-once (lone ∷ x) = omega arith

positional-once : (p : Bytes) → length (positional_in p) ≤ 1
unfolding positional_in
positional-once p = either (λ (l : List Bytes). length l ≤ 1) (has_equals (lexed true p)) (λ e. omega arith) (λ e. start-once (lexed true p))

keyword-once : (p : Bytes) → length (keyword_in p) ≤ 1
unfolding keyword_in
keyword-once p =
    either (λ (l : List (Bytes × Bytes)). length l ≤ 1) (has_equals (lexed true p))
    (λ e. let f = with-few (start_symbol (lexed true p)) (unlexed (drop (suc (equals_at (lexed true p))) (lexed true p))) in omega (arith, f, start-once (lexed true p))) (λ e. omega arith)

positionals-listed : (ps : List Bytes) → count (λ p. ltb 0 (length (positional_in p))) ps ≡ length (positional_names (map (lexed true) ps))
unfolding count positional_names positional_in
positionals-listed [] = refl
positionals-listed (p ∷ ps) =
    once (positional_in p) (count (λ p. ltb 0 (length (positional_in p))) ps) (positional-once p)
    ∙ (ap (length (positional_in p) +◌) (positionals-listed ps) ∙ sym (length-append (positional_in p) (positional_names (map (lexed true) ps))))

keywords-listed : (ps : List Bytes) → count (λ p. ltb 0 (length (keyword_in p))) ps ≡ length (keyword_names (map (lexed true) ps))
unfolding count keyword_names keyword_in
keywords-listed [] = refl
keywords-listed (p ∷ ps) =
    once (keyword_in p) (count (λ p. ltb 0 (length (keyword_in p))) ps) (keyword-once p)
    ∙ (ap (length (keyword_in p) +◌) (keywords-listed ps) ∙ sym (length-append (keyword_in p) (keyword_names (map (lexed true) ps))))

module _ (s : Bytes) where
  pub positionals_told : count (λ p. ltb 0 (length (positional_in p))) (parts_of s) ≡ length (positional_names (divided (lexed true s)))
  positionals_told = positionals-listed (parts_of s) ∙ ap (λ (ps : List Lexes). length (positional_names ps)) (sym (divided-cut s))

  pub keywords_told : count (λ p. ltb 0 (length (keyword_in p))) (parts_of s) ≡ length (keyword_names (divided (lexed true s)))
  keywords_told = keywords-listed (parts_of s) ∙ ap (λ (ps : List Lexes). length (keyword_names ps)) (sym (divided-cut s))

  -- the keywords by the parts' bytes
  pub keywords-parts : keywords_in s ≡ keyword_names (map (lexed true) (parts_of s))
  unfolding keywords_in
  keywords-parts = ap keyword_names (divided-cut s)

pub keywords-first : (p : Bytes) (ps : List Bytes) → keyword_names (map (lexed true) (p ∷ ps)) ≡ keyword_in p ++ keyword_names (map (lexed true) ps)
unfolding keyword_names keyword_in
keywords-first p ps = refl

-- ---- no part is longer than the operand

abbrev pub Short : ℕ → List Bytes → Type 0
Short n [] = ⊤
Short n (p ∷ ps) = (length p ≤ n) × Short n ps

short-within : (n : ℕ) (s : Bytes) (m : ℕ) → length s ≤ m → Short m (parts_within n s)
unfolding parts_within
short-within zero s m h = (h, tt)
short-within (suc n) s m h =
    let e = bare_at comma s in
    either (Short m) (ltb e (length s))
    (λ t. (omega (arith, length-take e s, h), short-within n (drop (suc e) s) m (omega (arith, length-drop (suc e) s, h))))
    (λ t. (h, tt))

pub short-parts : (s : Bytes) → Short (length s) (parts_of s)
unfolding parts_of parts_from
short-parts s =
    either (Short (length s)) (is_empty s) (λ e. tt)
    (λ e. either (Short (length s)) (leb 0 (length s)) (λ e. short-within (length s) (drop 0 s) (length s) (omega arith)) (λ e. tt))
