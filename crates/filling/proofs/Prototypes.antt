-- The symbols that the parts of a prototype's or a declaration's operand start with: they are the parameters, and not too long. Assumes nothing.
use Prim.Native.Nat.{ℕ, zero, suc}
use mathlib.Core.Path.{◌≡◌, refl, ap, sym, ◌∙◌}
use mathlib.Core.Bool.{Bool, true, false, ◌&&◌, ◌||◌, not}
use mathlib.Core.List.{List, [], ◌∷◌, ◌++◌, append_assoc}
use lib.ListN.{take, drop}
use Rattle.text.specs.Bytes.{Bytes}
use Rattle.rules.specs.Choice.{choose, any}
use Rattle.rules.specs.Lexemes.{Lex, byte, mark, ref, lone, lexed, unlexed, refs_in, is_long}
use Rattle.rules.specs.Fields.{Fields, fields_of}
use Rattle.rules.specs.Calls.{divided, equals_at, has_equals}
use Rattle.rules.specs.Library.{is_one_symbol, start_symbol, start_symbols, positional_names, with_default, keyword_names, operand_parts, names_in, firsts, parameter_names}
use Rattle.rules.specs.Faults.{has_long_symbol, before_equals, is_good_part, are_good_parts}
use Rattle.rules.proofs.Choices.{and_left, and_right}
use Rattle.rules.proofs.Logic.{clash, or_left, or_right, All}
use Rattle.rules.proofs.Symbols.{firsts-append}
use Rattle.rules.proofs.Pieces.{Piece, parts-stand}
use Rattle.declaring.specs.Declared.{symbols_in}
use Rattle.filling.proofs.Symbols.{short-front, short-behind}

abbrev Lexes : Type 0
Lexes = List (Lex Bytes)

-- ---- positionals and keywords

-- a part starts with at most one symbol
default-first : (p : Lexes) (d : Bytes) → firsts (with_default (start_symbol p) d) ≡ start_symbol p
unfolding firsts with_default start_symbol
default-first [] d = refl
default-first (byte c ∷ x) d = refl
default-first (mark ∷ x) d = refl
default-first (ref n ∷ x) d = refl
default-first (lone ∷ x) d = refl

-- where only keywords may follow, all are
keywords-listed : (ps : List Lexes) → are_good_parts true ps ≡ true → (positional_names ps ≡ []) × (firsts (keyword_names ps) ≡ start_symbols ps)
unfolding are_good_parts positional_names keyword_names start_symbols firsts choose
keywords-listed [] h = (refl, refl)
keywords-listed (p ∷ ps) h = go (has_equals p) (unlexed (drop (suc (equals_at p)) p)) (and_right (is_good_part p) _ h) (keywords-listed ps)
  where
    go : (b : Bool) (d : Bytes) → ((b || false) && are_good_parts true ps) ≡ true
        → (are_good_parts true ps ≡ true → (positional_names ps ≡ []) × (firsts (keyword_names ps) ≡ start_symbols ps))
        → (choose b [] (start_symbol p) ++ positional_names ps ≡ []) × (firsts (choose b (with_default (start_symbol p) d) [] ++ keyword_names ps) ≡ start_symbol p ++ start_symbols ps)
    go true d h ih =
        let r = ih h in
        (r.0, firsts-append (with_default (start_symbol p) d) (keyword_names ps) ∙ (λ i. default-first p d i ++ r.1 i))
    go false d h ih = clash h refl

parts-listed : (ps : List Lexes) → are_good_parts false ps ≡ true → positional_names ps ++ firsts (keyword_names ps) ≡ start_symbols ps
unfolding are_good_parts positional_names keyword_names start_symbols firsts choose
parts-listed [] h = refl
parts-listed (p ∷ ps) h = go (has_equals p) (unlexed (drop (suc (equals_at p)) p)) (and_right (is_good_part p) _ h) (parts-listed ps)
  where
    go : (b : Bool) (d : Bytes) → ((b || true) && are_good_parts b ps) ≡ true
        → (are_good_parts false ps ≡ true → positional_names ps ++ firsts (keyword_names ps) ≡ start_symbols ps)
        → (choose b [] (start_symbol p) ++ positional_names ps) ++ firsts (choose b (with_default (start_symbol p) d) [] ++ keyword_names ps) ≡ start_symbol p ++ start_symbols ps
    go true d h ih =
        let r = keywords-listed ps h in
        (λ i. r.0 i ++ firsts-append (with_default (start_symbol p) d) (keyword_names ps) i) ∙ (λ i. default-first p d i ++ r.1 i)
    go false d h ih = append_assoc (start_symbol p) (positional_names ps) (firsts (keyword_names ps)) ∙ ap (start_symbol p ++◌) (ih h)

-- a prototype's parameters are the name's symbol and those that its parts start with, in their order
pub parameters-listed : (prototype : Bytes) → are_good_parts false (operand_parts (fields_of prototype)) ≡ true
    → parameter_names (names_in prototype []) ≡ start_symbol (lexed false (fields_of prototype).name) ++ start_symbols (operand_parts (fields_of prototype))
unfolding parameter_names names_in
parameters-listed prototype h =
    let f = fields_of prototype in
    ap (start_symbol (lexed false f.name) ++◌) (parts-listed (operand_parts f) h)

-- ---- symbols that are not too long

none-in-both : {A : Type 0} (test : A → Bool) (s t : List A) → any test s ≡ false → any test t ≡ false → any test (s ++ t) ≡ false
unfolding any
none-in-both test [] t e f = f
none-in-both test (a ∷ s) t e f = λ i. or_left (test a) _ e i || none-in-both test s t (or_right (test a) _ e) f i

-- the symbol that a text starts with is one of its symbols
pub start-short : (x : Lexes) → has_long_symbol x ≡ false → any is_long (start_symbol x) ≡ false
unfolding has_long_symbol refs_in start_symbol any
start-short [] h = refl
start-short (byte c ∷ x) h = refl
start-short (mark ∷ x) h = refl
start-short (ref n ∷ x) h = ap (◌|| false) (or_left (is_long n) _ h)
start-short (lone ∷ x) h = refl

-- a text starts with the symbol that its front is
one-first : (m : ℕ) (x : Lexes) → is_one_symbol (take m x) ≡ true → start_symbol (take m x) ≡ start_symbol x
unfolding is_one_symbol start_symbol
one-first zero x h = clash h refl
one-first (suc m) [] h = refl
one-first (suc m) (byte c ∷ x) h = refl
one-first (suc m) (mark ∷ x) h = refl
one-first (suc m) (ref n ∷ x) h = refl
one-first (suc m) (lone ∷ x) h = refl

good-short : (keywords : Bool) (ps : List Lexes) → any (λ part. has_long_symbol (before_equals part)) ps ≡ false → are_good_parts keywords ps ≡ true
    → any is_long (start_symbols ps) ≡ false
unfolding are_good_parts is_good_part any start_symbols before_equals
good-short keywords [] n h = refl
good-short keywords (p ∷ ps) n h =
    let one = and_left (is_one_symbol (before_equals p)) _ (and_left (is_good_part p) _ h) in
    let rest = and_right (has_equals p || not keywords) _ (and_right (is_good_part p) _ h) in
    none-in-both is_long (start_symbol p) (start_symbols ps)
    (ap (any is_long) (sym (one-first (equals_at p) p one)) ∙ start-short (before_equals p) (or_left (has_long_symbol (before_equals p)) _ n))
    (good-short (keywords || has_equals p) ps (or_right (has_long_symbol (before_equals p)) _ n) rest)

-- those of a prototype
pub not-long : (f : Fields) → any (λ part. has_long_symbol (before_equals part)) (operand_parts f) ≡ false → are_good_parts false (operand_parts f) ≡ true
    → any is_long (start_symbols (operand_parts f)) ≡ false
not-long f = good-short false (operand_parts f)

refs-append : (s t : Lexes) → refs_in (s ++ t) ≡ refs_in s ++ refs_in t
unfolding refs_in
refs-append [] t = refl
refs-append (byte c ∷ s) t = refs-append s t
refs-append (mark ∷ s) t = refs-append s t
refs-append (ref n ∷ s) t = ap (n ∷◌) (refs-append s t)
refs-append (lone ∷ s) t = refs-append s t

part-short : (x p : Lexes) → has_long_symbol x ≡ false → Piece false x p → has_long_symbol p ≡ false
unfolding has_long_symbol
part-short x p h r =
    let e = ap refs_in r.whole ∙ refs-append r.pre (p ++ r.post) in
    let f = short-behind (refs_in r.pre) (refs_in (p ++ r.post)) (ap (any is_long) (sym e) ∙ h) in
    short-front (refs_in p) (refs_in r.post) (ap (any is_long) (sym (refs-append p r.post)) ∙ f)

parts-short : (x : Lexes) (ps : List Lexes) → has_long_symbol x ≡ false → All (Piece false x) ps → any is_long (start_symbols ps) ≡ false
unfolding start_symbols any
parts-short x [] h r = refl
parts-short x (p ∷ ps) h r = none-in-both is_long (start_symbol p) (start_symbols ps) (start-short p (part-short x p h r.0)) (parts-short x ps h r.1)

-- those of a declaration
pub not-long-in : (s : Bytes) → has_long_symbol (lexed true s) ≡ false → any is_long (symbols_in s) ≡ false
unfolding symbols_in
not-long-in s h = parts-short (lexed true s) (divided (lexed true s)) h (parts-stand (lexed true s))
