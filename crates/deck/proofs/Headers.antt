-- The macros of an accepted library's deck: their names, and how many parameters and locals they have.
use Prim.Native.Nat.{ℕ, suc, ◌+◌, ◌≤◌}
use native.Mathlib.Omega.{arith}
use mathlib.Core.Path.{◌≡◌, sym, subst}
use mathlib.Core.Bool.{Bool, true, false, ◌&&◌, not}
use mathlib.Core.List.{List, [], ◌∷◌, ◌++◌, append_assoc}
use lib.Dec.{leb, ltb}
use lib.ListN.{length, drop, length-append}
use borrow.Author.Tests.{le-leb, ltb-false}
use Rattle.text.specs.Bytes.{Bytes}
use Rattle.rules.specs.Choice.{choose}
use Rattle.rules.specs.Limits.{library_limit, parameter_limit, local_limit, nest_limit}
use Rattle.rules.specs.Lexemes.{Lex, byte, mark, ref, lone, lexed, unlexed}
use Rattle.rules.specs.Fields.{fields_of, is_empty}
use Rattle.rules.specs.Statement.{Set}
use Rattle.rules.specs.Calls.{equals_at, has_equals}
use Rattle.rules.specs.Form.{is_formed}
use Rattle.rules.specs.Library.{Macro, in_body, start_symbol, positional_names, with_default, keyword_names, operand_parts, locals_on, declared_in, names_in}
use Rattle.rules.specs.ByLines.{reading}
use Rattle.rules.specs.Faults.{is_macro_name, kinds_of, is_past, is_over_limit, accepted, verdict}
use Rattle.rules.proofs.Logic.{or_left, or_right}
use Rattle.rules.proofs.Symbols.{length-seconds}
use Rattle.rules.proofs.Accepted.{Faultless, around}
use Rattle.rules.proofs.Walked.{Lines, end, next, Proper}
use Rattle.rules.proofs.Prototypes.{title-named, few-parts}
use Rattle.deck.specs.Slots.{deck_macro, parameters}
use Rattle.deck.proofs.Macros.{Each, each-macro}

title-of : (gs : List (Bytes × Set)) (x : Macro) → Proper x → is_macro_name (deck_macro gs (reading x)).title ≡ true
unfolding reading deck_macro
title-of gs x p = title-named p.prototype-faultless

pub titles-named : (library : Bytes) → verdict library ≡ accepted → Each library (λ m. is_macro_name m.title ≡ true)
titles-named library e = each-macro library e (λ m. is_macro_name m.title ≡ true) (title-of _)

-- ---- parameters

pub one_at_most : (x : List (Lex Bytes)) → length (start_symbol x) ≤ 1
unfolding start_symbol
one_at_most [] = omega arith
one_at_most (byte c ∷ x) = omega arith
one_at_most (mark ∷ x) = omega arith
one_at_most (ref n ∷ x) = omega arith
one_at_most (lone ∷ x) = omega arith

with-default : (s : List Bytes) (d : Bytes) → length s ≤ 1 → length (with_default s d) ≤ 1
unfolding with_default
with-default [] d h = omega arith
with-default (n ∷ s) d h = omega arith

-- a part of the prototype's operand is one parameter at most
part-is-one : (b : Bool) (s : List Bytes) (d : Bytes) → length s ≤ 1 → length (choose b [] s) + length (choose b (with_default s d) []) ≤ 1
unfolding choose
part-is-one true s d h = omega (arith, with-default s d h)
part-is-one false s d h = omega (arith, h)

names-of-parts : (ps : List (List (Lex Bytes))) → length (positional_names ps) + length (keyword_names ps) ≤ length ps
unfolding positional_names keyword_names
names-of-parts [] = omega arith
names-of-parts (p ∷ ps) =
    let d = unlexed (drop (suc (equals_at p)) p) in
    omega (
      arith,
      part-is-one (has_equals p) (start_symbol p) d (one_at_most p),
      names-of-parts ps,
      length-append (choose (has_equals p) [] (start_symbol p)) (positional_names ps),
      length-append (choose (has_equals p) (with_default (start_symbol p) d) []) (keyword_names ps),
    )

name-is-one : {A : Type 0} (s : List A) → choose (not (is_empty s)) 1 0 ≤ length s
unfolding choose is_empty
name-is-one [] = omega arith
name-is-one (a ∷ s) = omega arith

parameters-of : (gs : List (Bytes × Set)) (x : Macro) → Proper x → leb (parameters (deck_macro gs (reading x))) parameter_limit ≡ true
unfolding reading deck_macro parameters names_in
parameters-of gs x p =
    let f = fields_of x.prototype in
    le-leb (parameters (deck_macro gs (reading x))) parameter_limit (omega (arith, few-parts p.prototype-faultless, names-of-parts (operand_parts f), name-is-one (start_symbol (lexed false f.name))))

pub few-parameters : (library : Bytes) → verdict library ≡ accepted → Each library (λ m. leb (parameters m) parameter_limit ≡ true)
few-parameters library e = each-macro library e (λ m. leb (parameters m) parameter_limit ≡ true) (parameters-of _)

-- ---- locals

-- what the lines declare one after another
pub declared-last : (on : Bytes → List (Bytes × Set)) (s : List Bytes) (l : Bytes) → length (declared_in on (s ++ (l ∷ []))) ≡ length (declared_in on s) + length (on l)
unfolding declared_in
declared-last on [] l = omega (arith, length-append (on l) [])
declared-last on (k ∷ s) l =
    omega (arith, declared-last on s l, length-append (on k) (declared_in on (s ++ (l ∷ []))), length-append (on k) (declared_in on s))

within-some : {A : Type 0} (s : List A) (a n : ℕ) → a ≤ n → (not (is_empty s) && ltb n (a + length s)) ≡ false → a + length s ≤ n
unfolding is_empty
within-some [] a n h e = omega (arith, h)
within-some (x ∷ s) a n h e = ltb-false n _ e

module _ {p : Bytes} {n m : ℕ} {ts : List Bytes} {gs : List (Bytes × Set)} {before : List Bytes} {l : Bytes} {more : List Bytes}
    (h : Faultless (around n m ts gs (in_body p before)) l more) where
  locals-within : length (declared_in locals_on before) ≤ local_limit → length (declared_in locals_on (before ++ (l ∷ []))) ≤ local_limit
  unfolding is_over_limit is_past names_in
  locals-within few =
      let q = or_right (not (is_formed nest_limit (kinds_of (names_in p before) l))) _ (or_right (leb library_limit n) _ h.within) in
      subst (λ k. k ≤ local_limit) (sym (declared-last locals_on before l)) (within-some (locals_on l) _ local_limit few (or_left _ _ q))

lines-locals : {p : Bytes} {m : ℕ} {ts : List Bytes} {n : ℕ} {gs : List (Bytes × Set)} {before rest : List Bytes} → Lines p m ts n gs before rest
    → length (declared_in locals_on before) ≤ local_limit → length (declared_in locals_on (before ++ rest)) ≤ local_limit
lines-locals (end more e f) h = locals-within f h
lines-locals (next {before = before} {l = l} {ls = ls} more e f b) h =
    subst (λ s. length (declared_in locals_on s) ≤ local_limit) (append_assoc before (l ∷ []) ls) (lines-locals b (locals-within f h))

locals_of : (gs : List (Bytes × Set)) (x : Macro) → Proper x → leb (length (deck_macro gs (reading x)).locals) local_limit ≡ true
unfolding reading deck_macro names_in declared_in
locals_of gs x p =
    le-leb (length (deck_macro gs (reading x)).locals) local_limit
    (omega (arith, length-seconds (declared_in locals_on x.body), lines-locals p.body-faultless (omega arith)))

pub few-locals : (library : Bytes) → verdict library ≡ accepted → Each library (λ m. leb (length m.locals) local_limit ≡ true)
few-locals library e = each-macro library e (λ m. leb (length m.locals) local_limit ≡ true) (locals_of _)
