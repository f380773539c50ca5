-- Which grammar a line has, by what it does; and the name of a SET line. Assumes nothing.
use Prim.Native.Nat.{ℕ}
use native.Mathlib.Omega.{arith}
use mathlib.Core.Path.{◌≡◌, refl, sym, ap, ◌∙◌}
use mathlib.Core.Bool.{Bool, true, false, ◌&&◌}
use mathlib.Core.Logic.{◌⊎◌, inl, inr}
use mathlib.Core.List.{List, [], ◌∷◌}
use lib.Dec.{eqb}
use lib.ListN.{length}
use borrow.Author.Tests.{ne_eqb}
use Rattle.std.specs.Prelude.{Some}
use Rattle.std.specs.Option.{option_eq}
use Rattle.text.specs.Bytes.{Bytes}
use Rattle.rules.specs.Lexemes.{Lex, byte, mark, ref, lone}
use Rattle.rules.specs.Statement.{set_a, set_b, set_c, Does, passes, ends, exits, text, models, sets, branches_if, branches, counts}
use Rattle.rules.specs.Grammar.{Kind, parameter, symbol, syslist, sysndx, sysect, unknown, whole, arithmetic, condition, text_within}
use Rattle.rules.specs.Form.{form, is_got, same_set, is_symbol_of, is_named_by, is_operand_of, is_formed_by}
use Rattle.kinds.specs.declared.Set.{Set}
use Rattle.kinds.specs.declared.Set.TheVariants.{A, B, C}
use Rattle.kinds.specs.declared.Kind.TheVariants.{Symbol}
use Rattle.kinds.specs.declared.Does.{Does as Word}
use Rattle.kinds.specs.declared.Does.TheVariants.{Passes, Ends, Exits, Text, Models, BranchesIf, Branches, Counts, Sets}
use Rattle.kinds.specs.contracts.KindPartialEq.TheImpl.{eq-value}
use Rattle.kinds.specs.Kinds.{set_of, does_for}
use Rattle.grammar.specs.Kinds.{kind_shown, kind_first}
use Rattle.grammar.specs.Tokens.{toks_at}
use Rattle.conditions.proofs.Words.{toks-length}

pub all-length : (kinds code : Bytes) → length (toks_at kinds code 0) ≡ length code
all-length kinds code = let n = toks-length kinds code 0 in omega arith

-- ---- the name of a SET line

abbrev is_symbol : Set → List (Lex Kind) → Bool
is_symbol k x = option_eq eq-value.it (kind_first x) (Some (Symbol k))

both-false : (b : Bool) → (b && false) ≡ false
both-false true = refl
both-false false = refl

pub named-is : (k : Set) (x : List (Lex Kind)) → (eqb (length x) 1 && is_symbol k x) ≡ is_named_by (set_of k) x
unfolding kind_first kind_shown is_named_by is_symbol_of same_set
named-is k [] = refl
named-is k (byte c ∷ x) = both-false (eqb (length (byte c ∷ x)) 1)
named-is k (lone ∷ x) = both-false (eqb (length (lone ∷ x)) 1)
named-is k (mark ∷ x) = both-false (eqb (length (mark ∷ x)) 1)
named-is k (ref r ∷ (y ∷ x)) = ap (λ b. b && is_symbol k (ref r ∷ (y ∷ x))) (ne_eqb (length (ref r ∷ (y ∷ x))) 1 (λ e. omega arith))
named-is k (ref r ∷ []) = one k r
  where
    one : (k : Set) (r : Kind) → is_symbol k (ref r ∷ []) ≡ is_symbol_of (set_of k) r
    one A (symbol set_a) = refl
    one A (symbol set_b) = refl
    one A (symbol set_c) = refl
    one B (symbol set_a) = refl
    one B (symbol set_b) = refl
    one B (symbol set_c) = refl
    one C (symbol set_a) = refl
    one C (symbol set_b) = refl
    one C (symbol set_c) = refl
    one k parameter = refl
    one k syslist = refl
    one k sysndx = refl
    one k sysect = refl
    one k unknown = refl

-- ---- lines

module _ (nest : ℕ) (name operation operand : List (Lex Kind)) where
  -- whether a line is well formed, by the word for what it does
  abbrev formed_for : Word → Bool
  formed_for Passes = true
  formed_for Ends = true
  formed_for Exits = true
  formed_for Text = true
  formed_for Models = is_got (text_within form nest name) && (is_got (text_within form nest operation) && is_got (text_within form nest operand))
  formed_for (Sets k) = is_named_by (set_of k) name && is_operand_of nest (set_of k) operand
  formed_for BranchesIf = is_got (whole (condition form nest operand))
  formed_for Branches = true
  formed_for Counts = is_got (whole (arithmetic form nest operand))

  module _ {L : Type 0} where
    -- what a text or a branch target is does not matter
    formed-is : (d : Does L) → formed_for (does_for d) ≡ is_formed_by nest (record { does = d; name = name; operation = operation; operand = operand }) d
    unfolding is_formed_by
    formed-is passes = refl
    formed-is ends = refl
    formed-is exits = refl
    formed-is (text s) = refl
    formed-is models = refl
    formed-is (sets set_a) = refl
    formed-is (sets set_b) = refl
    formed-is (sets set_c) = refl
    formed-is (branches_if t) = refl
    formed-is (branches t) = refl
    formed-is counts = refl

    pub formed-for : {w v : Word} → w ≡ v → (d : Does L) → w ≡ does_for d → formed_for v ≡ is_formed_by nest (record { does = d; name = name; operation = operation; operand = operand }) d
    formed-for is d e = ap formed_for (sym is ∙ e) ∙ formed-is d

    pub formed-always : {w : Word} → (w ≡ Passes) ⊎ ((w ≡ Ends) ⊎ ((w ≡ Exits) ⊎ ((w ≡ Text) ⊎ (w ≡ Branches)))) → (d : Does L) → w ≡ does_for d
        → true ≡ is_formed_by nest (record { does = d; name = name; operation = operation; operand = operand }) d
    formed-always (inl is) = formed-for is
    formed-always (inr (inl is)) = formed-for is
    formed-always (inr (inr (inl is))) = formed-for is
    formed-always (inr (inr (inr (inl is)))) = formed-for is
    formed-always (inr (inr (inr (inr is)))) = formed-for is
