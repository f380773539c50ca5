-- Texts, piece by piece. Assumes nothing.
use mathlib.Core.Path.{◌≡◌, refl, sym, ap, ◌∙◌}
use mathlib.Core.Bool.{Bool, true, false, not, true≢false}
use mathlib.Core.List.{List, [], ◌∷◌}
use mathlib.Core.Option.{some}
use Prim.Native.Nat.{ℕ, suc, ◌+◌, ◌<◌, ◌≤◌}
use native.Mathlib.Omega.{arith}
use native.Mathlib.Nat.{le_refl, le_trans}
use lib.Dec.{eqb}
use borrow.Author.Tests.{lt-ltb, le-ltb}
use lib.ListN.{length}
use Rattle.text.specs.Bytes.{Bytes}
use Rattle.rules.specs.Choice.{choose, while}
use Rattle.rules.specs.Lexemes.{Lex, byte, mark, ref, lone, period}
use Rattle.rules.specs.Fields.{is_empty}
use Rattle.rules.specs.Grammar.{Kind, Got, got, refused, plain, rest, then, broken, reference, referred, piece, add_piece, goes_on_text, text, deeper, text_within}
use Rattle.rules.specs.Form.{Nothing, form}
use Rattle.rules.proofs.Choices.{by, either, chosen, passed_over}
use Rattle.std.specs.Prelude.{Option, Some, None, Ok, Err}
use Rattle.std.specs.Option.{unwrap_or}
use Rattle.std.specs.Result.{IsErrAnd}
use Rattle.grammar.specs.declared.Fault.{Fault}
use Rattle.grammar.specs.declared.Fault.TheVariants.{Broken, Deep}
use Rattle.grammar.specs.Tokens.{toks_at, Formed, tells}
use Rattle.grammar.proofs.Places.{toks-rest, more-is}
use Rattle.grammar.proofs.Answers.{same-fault}
use Rattle.kinds.specs.declared.Stand.TheVariants.{Text}
use Rattle.kinds.specs.Kinds.{table_of}
use Rattle.grammar.specs.Operands.{past_period}
use Rattle.grammar.proofs.While.{Falls, while-less, Going, going-ends, going_less, going_on}
use Rattle.grammar.proofs.Chains.{left, left-then, Forward, drop-less, then_same}
use Rattle.grammar.proofs.Rules.{got-left, broken-left, forward-referred, forward-deeper}

-- ---- a scan: turns that move forward, while something is left

pub record Scan (test : Got Nothing Kind → Bool) (turn : Got Nothing Kind → Got Nothing Kind) : Type 0 where
  pub some_left : (v : Nothing) (x : List (Lex Kind)) → test (got v x) ≡ true → 0 < length x
  pub stops : (e n : ℕ) → test (refused e n) ≡ false
  pub moves : (v : Nothing) (x : List (Lex Kind)) → test (got v x) ≡ true → left (turn (got v x)) ≤ length x

-- what is left to read
unfoldable pub remains : Got Nothing Kind → ℕ
remains (got v x) = length x
remains (refused e n) = 0

remains-less : (r : Got Nothing Kind) (n : ℕ) → 0 < n → left r ≤ n → remains r < n
unfolding remains left
remains-less (got v x) n h k = k
remains-less (refused e l) n h k = h

pub left-remains : (r : Got Nothing Kind) → left r ≤ suc (remains r)
unfolding remains left
left-remains (got v x) = le_refl _
left-remains (refused e l) = omega arith

module _ {test : Got Nothing Kind → Bool} {turn : Got Nothing Kind → Got Nothing Kind} (k : Scan test turn) where
  pub turn-less : (s : Got Nothing Kind) → test s ≡ true → remains (turn s) < remains s
  unfolding remains
  turn-less (got v x) e = remains-less (turn (got v x)) (length x) (k.some_left v x e) (k.moves v x e)
  turn-less (refused e n) h = absurd (true≢false (sym h ∙ k.stops e n))

  abbrev pub scanning : Falls test turn
  scanning = record { measure = remains; falls = turn-less }

  abbrev pub scanned : List (Lex Kind) → Got Nothing Kind
  scanned x = while test turn (length x) (got tt x)

  pub left-scanned : (x : List (Lex Kind)) → left (scanned x) ≤ suc (length x)
  unfolding remains
  left-scanned x = let all = while-less scanning (length x) (got tt x) in let one = left-remains (scanned x) in omega arith

  module _ (kinds code : Bytes) where
    abbrev pub Scanning : ℕ → ℕ → Type 0
    Scanning at here = Going scanning (length (toks_at kinds code at)) (scanned (toks_at kinds code at)) (got tt (toks_at kinds code here))

    abbrev pub to_scan : ℕ → ℕ
    to_scan here = length (toks_at kinds code here)

    off : (e : Fault) → test (tells (toks_at kinds code) (Err e)) ≡ false
    unfolding tells
    off (Broken n) = k.stops _ _
    off (Deep n) = k.stops _ _

    pub scan-starts : (at : ℕ) → Scanning at at
    unfolding remains
    scan-starts at = record { short = le_refl _; goes = refl }

    module _ (at here : ℕ) (inv : Scanning at here) where
      pub scan-ends : test (got tt (toks_at kinds code here)) ≡ false → tells (toks_at kinds code) (Ok here) ≡ scanned (toks_at kinds code at)
      unfolding tells
      scan-ends h = going-ends scanning inv h

      module _ (h : test (got tt (toks_at kinds code here)) ≡ true) (r : Formed) (read : tells (toks_at kinds code) r ≡ turn (got tt (toks_at kinds code here))) where
        pub scan-less : {there : ℕ} → r ≡ Ok there → to_scan there < to_scan here
        unfolding tells remains
        scan-less e = going_less scanning inv h (ap (tells (toks_at kinds code)) (sym e) ∙ read)

        pub scan-again : {there : ℕ} → r ≡ Ok there → Scanning at there
        unfolding tells
        scan-again e = going_on scanning inv h (ap (tells (toks_at kinds code)) (sym e) ∙ read)

        pub scan-fails : {e : Fault} → r ≡ Err e → (s : Formed) → IsErrAnd s (λ d. d ≡ e) → tells (toks_at kinds code) s ≡ scanned (toks_at kinds code at)
        scan-fails {e} is s out = ap (tells (toks_at kinds code)) (same-fault s out) ∙ going-ends scanning (going_on scanning inv h (ap (tells (toks_at kinds code)) (sym is) ∙ read)) (off e)

-- ---- pieces

pub past-is : (kinds code : Bytes) (at : ℕ) {o : Option ℕ} → o ≡ choose (eqb (plain (toks_at kinds code at)) 46) (Some (at + 1)) None → {n : ℕ} → n ≡ unwrap_or o at
    → got tt (toks_at kinds code n) ≡ past_period tt (toks_at kinds code at)
unfolding past_period
past-is kinds code at is e = by (eqb (plain (toks_at kinds code at)) 46)
    (λ h. ap (λ m. got tt (toks_at kinds code m)) (e ∙ ap (λ o. unwrap_or o at) (is ∙ chosen _ _ h)) ∙ ap (got tt) (sym (toks-rest kinds code at) ∙ sym (chosen _ _ h)))
    (λ h. ap (λ m. got tt (toks_at kinds code m)) (e ∙ ap (λ o. unwrap_or o at) (is ∙ passed_over _ _ h)) ∙ ap (got tt) (sym (passed_over _ _ h)))

module _ (inner : List (Lex Kind) → Got Nothing Kind) where
  pub piece-end : (x : List (Lex Kind)) → x ≡ [] → broken x ≡ piece form inner x
  unfolding piece
  piece-end x e = rw e

  pub piece_byte : (c : ℕ) (x : List (Lex Kind)) → got tt x ≡ piece form inner (byte c ∷ x)
  unfolding piece form
  piece_byte c x = refl

  pub piece-mark : (x : List (Lex Kind)) → got tt x ≡ piece form inner (mark ∷ x)
  unfolding piece form
  piece-mark x = refl

  pub piece-lone : (x : List (Lex Kind)) → then (referred form inner (table_of Text) (λ r. some tt) (lone ∷ x) (lone ∷ x)) past_period ≡ piece form inner (lone ∷ x)
  unfolding piece referred reference then broken form
  piece-lone x = refl

  pub piece-ref : (k : Kind) (x : List (Lex Kind)) → then (referred form inner (table_of Text) (λ r. some tt) (ref k ∷ x) (ref k ∷ x)) past_period ≡ piece form inner (ref k ∷ x)
  unfolding piece form choose past_period
  piece-ref k x = refl

  pub add-got : (x : List (Lex Kind)) → piece form inner x ≡ add_piece form inner (got tt x)
  unfolding add_piece form
  add-got x = sym (then_same (piece form inner x))

  module _ (kinds code : Bytes) (here : ℕ) where
    pub text-goes : here < length code → goes_on_text form inner (got tt (toks_at kinds code here)) ≡ true
    unfolding goes_on_text
    text-goes h = sym (more-is kinds code here) ∙ lt-ltb here (length code) h

    pub text-stops : length code ≤ here → goes_on_text form inner (got tt (toks_at kinds code here)) ≡ false
    unfolding goes_on_text
    text-stops h = sym (more-is kinds code here) ∙ le-ltb here (length code) h

  module _ (forward : Forward inner) where
    left-period : (v : Nothing) (x : List (Lex Kind)) → left (past_period v x) ≤ suc (length x)
    unfolding past_period rest left
    left-period v x = either (λ (y : List (Lex Kind)). suc (length y) ≤ suc (length x)) (eqb (plain x) period) (λ e. let less = drop-less 1 x in omega arith) (λ e. le_refl _)

    pub forward-piece : Forward (piece form inner)
    unfolding piece form
    forward-piece [] = broken-left _ [] _
    forward-piece (byte c ∷ x) = got-left tt x _ (le_refl _)
    forward-piece (mark ∷ x) = got-left tt x _ (le_refl _)
    forward-piece (ref r ∷ x) = rw (← piece-ref r x) (le_trans (left-then (referred form inner (table_of Text) (λ r. some tt) (ref r ∷ x) (ref r ∷ x)) past_period left-period) (forward-referred inner forward (table_of Text) (ref r ∷ x) (ref r ∷ x)))
    forward-piece (lone ∷ x) = broken-left _ (lone ∷ x) _

    pub texts : Scan (goes_on_text form inner) (add_piece form inner)
    unfolding goes_on_text is_empty
    texts = record { some_left = λ v x e. filled x e; stops = λ e n. refl; moves = λ v x e. rw (← add-got x) (forward-piece x) }
      where
        filled : (x : List (Lex Kind)) → not (is_empty x) ≡ true → 0 < length x
        filled [] e = absurd (true≢false (sym e))
        filled (y ∷ x) e = omega arith

pub texts-of : (nest : ℕ) → Scan (goes_on_text form (deeper form nest)) (add_piece form (deeper form nest))
texts-of nest = texts (deeper form nest) (forward-deeper nest)

pub text_of : (nest : ℕ) (x : List (Lex Kind)) → scanned (texts-of nest) x ≡ text_within form nest x
unfolding text_within text form
text_of nest x = refl
