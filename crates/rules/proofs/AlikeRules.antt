-- Each rule of the grammar gives alike answers (proofs/Alike.antt) with any sense and with the sense of form: nothing that a value is decides which rule is next.
use Prim.Native.Nat.{ℕ, zero, suc}
use mathlib.Core.Path.{◌≡◌, refl, ap}
use mathlib.Core.Bool.{Bool, ◌&&◌, ◌||◌, not}
use mathlib.Core.List.{List}
use mathlib.Core.Option.{Option, some}
use lib.Dec.{eqb, ltb}
use lib.ListN.{length, drop}
use Rattle.text.specs.Bytes.{bytes, member, same}
use Rattle.text.specs.Characters.{letter, digit}
use Rattle.rules.specs.Lexemes.{apostrophe, opening, comma, period, Lex, byte, mark, ref, lone}
use Rattle.rules.specs.Fields.{is_empty}
use Rattle.rules.specs.Statement.{map_lex}
use Rattle.rules.specs.Values.{spelt}
use Rattle.rules.specs.Grammar
use Rattle.rules.specs.Grammar.{Kind, parameter, symbol, syslist, sysndx, sysect, unknown, Reference, Got, got, Sense, plain, past_spaces, is_word}
use Rattle.rules.specs.Form.{Nothing, form}
use Rattle.rules.proofs.InKind.{InKind, done, more, same-plain, same_length, same-emptiness, after-drop, after-rest, after-choose, same_first, after_run, same-attribute, after-spaces, same_word, same_relation}
use Rattle.rules.proofs.Alike.{Alike, both, neither, Any, Rule, alike-broken, alike-choose, alike-option, alike_then, alike-given, alike-closed, alike-while, alike-chain}

-- two references of one kind, both with subscripts or both without
pub record AlikeReference {R N : Type 0} (kind : R → Kind) (r : Reference R N) (s : Reference Kind Nothing) : Type 0 where
  pub kind-same : kind r.of ≡ s.of
  pub bare-same : is_empty r.subscripts ≡ is_empty s.subscripts

-- a test of the byte that stands first
first-is : {R : Type 0} {kind : R → Kind} {x : List (Lex R)} {y : List (Lex Kind)} (c : ℕ) → InKind kind x y → eqb (plain x) c ≡ eqb (plain y) c
first-is c h = ap (λ b. eqb b c) (same-plain h)

module _ {R N S B : Type 0} (sense : Sense R N S B) where
  -- arithmetic, texts and strings, if what stands in parentheses is alike
  module _ {inner : List (Lex R) → Got N R} {inner' : List (Lex Kind) → Got Nothing Kind} (inners : Rule sense.kind inner inner') where
    alike-subscripts : (k : Kind) (r : R) {x : List (Lex R)} {y : List (Lex Kind)} → InKind sense.kind x y
        → Alike sense.kind (AlikeReference sense.kind) (Grammar.subscripts sense inner k r x)
        (Grammar.subscripts form inner' k (sense.kind r) y)
    unfolding Grammar.subscripts is_empty
    alike-subscripts parameter r h = alike_then (inners _ _ (after-rest h)) λ n m x y fit h. alike-closed _ _ (record { kind-same = refl; bare-same = refl }) h
    alike-subscripts (symbol k) r h = alike-broken h
    alike-subscripts syslist r h = alike_then (inners _ _ (after-rest h)) λ n m x y fit h. alike-choose _ (first-is comma h)
        (alike_then (inners _ _ (after-rest h)) λ n m x y fit h. alike-closed _ _ (record { kind-same = refl; bare-same = refl }) h)
        (alike-closed _ _ (record { kind-same = refl; bare-same = refl }) h)
    alike-subscripts sysndx r h = alike-broken h
    alike-subscripts sysect r h = alike-broken h
    alike-subscripts unknown r h = alike-broken h

    alike-reference : {x : List (Lex R)} {y : List (Lex Kind)} → InKind sense.kind x y
        → Alike sense.kind (AlikeReference sense.kind) (Grammar.reference sense inner x) (Grammar.reference form inner' y)
    unfolding Grammar.reference map_lex form is_empty
    alike-reference done = alike-broken done
    alike-reference (more {a = byte c} h) = alike-broken (more h)
    alike-reference (more {a = mark} h) = alike-broken (more h)
    alike-reference (more {a = ref r} h) = alike-choose _ (first-is opening h) (alike-subscripts (sense.kind r) r h) (both (record { kind-same = refl; bare-same = refl }) h)
    alike-reference (more {a = lone} h) = alike-broken (more h)

    alike-referred : {A : Type 0} (takes : Kind → Bool → Bool) (meant : Reference R N → Option A) {here x : List (Lex R)} {here' y : List (Lex Kind)}
        → InKind sense.kind here here' → InKind sense.kind x y
        → Alike sense.kind Any (Grammar.referred sense inner takes meant here x) (Grammar.referred form inner' takes (λ r. some tt) here' y)
    unfolding Grammar.referred form
    alike-referred takes meant g h = alike_then (alike-reference h) λ r s x y fit h.
        alike-choose _ (λ i. takes (fit.kind-same i) (fit.bare-same i)) (alike-given (meant r) _ _ h) (alike-broken g)

    alike-decimal : Rule sense.kind (Grammar.decimal_number sense inner) (Grammar.decimal_number form inner')
    unfolding Grammar.decimal_number form
    alike-decimal x y h = alike-choose _ (λ i. ltb 2147483647 (spelt 0 (same_first digit h i)) || letter (same-plain (after_run digit h) i)) (alike-broken h) (both tt (after_run digit h))

    alike-term : Rule sense.kind (Grammar.term sense inner) (Grammar.term form inner')
    unfolding Grammar.term form
    alike-term x y h = alike-choose _ (first-is opening h) (alike_then (inners _ _ (after-rest h)) λ v w x y fit h. alike-closed v w fit h)
        (alike-choose _ (ap digit (same-plain h)) (alike-decimal x y h)
        (alike-choose _ (same-attribute 75 h) (alike-referred Grammar.after_k sense.bytes_in h (after-drop 2 h))
        (alike-choose _ (same-attribute 78 h) (alike-referred Grammar.after_n sense.entries_in h (after-drop 2 h)) (alike-referred Grammar.as_term sense.term h h))))

    alike-product : Rule sense.kind (Grammar.product sense inner) (Grammar.product form inner')
    unfolding Grammar.product form
    alike-product = alike-chain _ (λ x y h. ap (λ c. member c (bytes "*/")) (same-plain h)) (λ x y. after-rest) alike-term

    pub alike-sum : Rule sense.kind (Grammar.sum sense inner) (Grammar.sum form inner')
    unfolding Grammar.sum form
    alike-sum = alike-chain _ (λ x y h. ap (λ c. member c (bytes "+-")) (same-plain h)) (λ x y. after-rest) alike-product

    alike-piece : Rule sense.kind (Grammar.piece sense inner) (Grammar.piece form inner')
    unfolding Grammar.piece map_lex form
    alike-piece x y done = alike-broken done
    alike-piece x y (more {a = byte c} h) = both tt h
    alike-piece x y (more {a = mark} h) = both tt h
    alike-piece x y (more {a = ref r} h) = alike_then (alike-referred Grammar.in_text sense.text_of (more h) (more h)) λ s t x y fit h.
        both tt (after-choose _ (first-is period h) (after-rest h) h)
    alike-piece x y (more {a = lone} h) = alike-broken (more h)

    alike-add : (s : S) (t : Nothing) {x : List (Lex R)} {y : List (Lex Kind)} → InKind sense.kind x y
        → Alike sense.kind Any (Grammar.add_piece sense inner (got s x)) (Grammar.add_piece form inner' (got t y))
    unfolding Grammar.add_piece form
    alike-add s t h = alike_then (alike-piece _ _ h) λ v w x y fit h. both tt h

    pub alike-text : Rule sense.kind (Grammar.text sense inner) (Grammar.text form inner')
    unfolding Grammar.text Grammar.goes_on_text form
    alike-text x y h = rw (same_length h) (alike-while _ _ _ _ (λ e left. refl) (λ e left. refl) (λ v w x y h. ap not (same-emptiness h)) (λ v w x y fit. alike-add v w) (length y) (both tt h))

    same-doubled : {x : List (Lex R)} {y : List (Lex Kind)} → InKind sense.kind x y → Grammar.is_doubled sense inner x ≡ Grammar.is_doubled form inner' y
    unfolding Grammar.is_doubled
    same-doubled h = λ i. eqb (same-plain h i) apostrophe && eqb (same-plain (after-rest h) i) apostrophe

    alike-quoted : Rule sense.kind (Grammar.quoted_text sense inner) (Grammar.quoted_text form inner')
    unfolding Grammar.quoted_text Grammar.goes_on_quoted Grammar.add_quoted form
    alike-quoted x y h = rw (same_length h) (alike_then
        (alike-while _ _ _ _ (λ e left. refl) (λ e left. refl)
        (λ v w x y h i. same-doubled h i || not (same-emptiness h i || eqb (same-plain h i) apostrophe))
        (λ v w x y fit h. alike-choose _ (same-doubled h) (both tt (after-drop 2 h)) (alike-add v w h)) (length y) (both tt h))
        λ s t x y fit h. alike-choose _ (first-is apostrophe h) (both tt (after-rest h)) (alike-broken h))

    alike-substringed : (here : List (Lex R)) (here' : List (Lex Kind)) (s : S) (t : Nothing) {x : List (Lex R)} {y : List (Lex Kind)} → InKind sense.kind x y
        → Alike sense.kind Any (Grammar.substringed sense inner here s x) (Grammar.substringed form inner' here' t y)
    unfolding Grammar.substringed form
    alike-substringed here here' s t h = alike-choose _ (first-is opening h)
        (alike_then (inners _ _ (after-rest h)) λ start w x y fit h. alike-choose _ (first-is comma h)
        (alike_then (inners _ _ (after-rest h)) λ count m x y fit h. alike_then (alike-closed {Fit = Any} count m tt h) λ last m x y fit h. alike-given (sense.substring_of s start last) _ _ h)
        (alike-broken h))
        (both tt h)

    alike-string : Rule sense.kind (Grammar.string sense inner) (Grammar.string form inner')
    unfolding Grammar.string form
    alike-string x y h = alike-choose _ (first-is apostrophe h) (alike_then (alike-quoted _ _ (after-rest h)) λ s t x y fit h. alike-substringed _ _ s t h) (alike-broken h)

    pub alike-characters : Rule sense.kind (Grammar.characters sense inner) (Grammar.characters form inner')
    unfolding Grammar.characters form
    alike-characters x y h = alike-choose _ (same-attribute 84 h) (alike-referred Grammar.after_t sense.type_in h (after-drop 2 h))
        (alike_then (alike-chain _ (λ x y. first-is period) (λ x y. after-rest) alike-string _ _ h) λ s t x y fit h. both tt h)

  alike-deeper : (n : ℕ) → Rule sense.kind (Grammar.deeper sense n) (Grammar.deeper form n)
  unfolding Grammar.deeper
  alike-deeper zero x y h = rw (same_length h) neither
  alike-deeper (suc n) x y h = alike-sum (alike-deeper n) x y h

  pub alike-arithmetic : (n : ℕ) → Rule sense.kind (Grammar.arithmetic sense n) (Grammar.arithmetic form n)
  unfolding Grammar.arithmetic
  alike-arithmetic n = alike-sum (alike-deeper n)

  pub alike-text-within : (n : ℕ) → Rule sense.kind (Grammar.text_within sense n) (Grammar.text_within form n)
  unfolding Grammar.text_within
  alike-text-within n = alike-text (alike-deeper n)

  pub alike-string-within : (n : ℕ) → Rule sense.kind (Grammar.string_within sense n) (Grammar.string_within form n)
  unfolding Grammar.string_within
  alike-string-within n = alike-characters (alike-deeper n)

  -- conditions, if those in parentheses are alike
  module _ (n : ℕ) {inner : List (Lex R) → Got B R} {inner' : List (Lex Kind) → Got Nothing Kind} (inners : Rule sense.kind inner inner') where
    alike-strings : (s : S) (t : Nothing) {x : List (Lex R)} {y : List (Lex Kind)} → InKind sense.kind x y
        → Alike sense.kind Any (Grammar.compared_strings sense n inner s x) (Grammar.compared_strings form n inner' t y)
    unfolding Grammar.compared_strings form
    alike-strings s t h = alike-option _ (same_relation h) (alike-broken h)
        λ r. alike_then (alike-string-within n _ _ (after-spaces (after-drop 2 h))) λ s t x y fit h. both tt h

    same-digit-alone : (c : ℕ) {here x : List (Lex R)} {here' y : List (Lex Kind)} → InKind sense.kind here here' → InKind sense.kind x y
        → Grammar.is_digit_alone sense n inner c here x ≡ Grammar.is_digit_alone form n inner' c here' y
    unfolding Grammar.is_digit_alone
    same-digit-alone c g h = λ i. eqb (same-plain g i) c && eqb (same_length g i) (suc (same_length h i))

    alike-constant : {here x : List (Lex R)} {here' y : List (Lex Kind)} → InKind sense.kind here here' → InKind sense.kind x y
        → Alike sense.kind Any (Grammar.constant_at sense n inner here x) (Grammar.constant_at form n inner' here' y)
    unfolding Grammar.constant_at form
    alike-constant g h = alike-choose _ (same-digit-alone 48 g h) (both tt h) (alike-choose _ (same-digit-alone 49 g h) (both tt h) (alike-broken g))

    alike-numbers : {here : List (Lex R)} {here' : List (Lex Kind)} (a : N) (b : Nothing) {x : List (Lex R)} {y : List (Lex Kind)} → InKind sense.kind here here'
        → InKind sense.kind x y
        → Alike sense.kind Any (Grammar.compared_numbers sense n inner here a x) (Grammar.compared_numbers form n inner' here' b y)
    unfolding Grammar.compared_numbers form
    alike-numbers a b g h = alike-option _ (same_relation (after-spaces h)) (alike-constant g h)
        λ r. alike-choose _ (first-is opening (behind h)) (alike-broken (behind h)) (alike_then (alike-arithmetic n _ _ (behind h)) λ v w x y fit h. both tt h)
      where
        behind : {x : List (Lex R)} {y : List (Lex Kind)} → InKind sense.kind x y
            → InKind sense.kind (past_spaces (drop 2 (past_spaces x))) (past_spaces (drop 2 (past_spaces y)))
        behind h = after-spaces (after-drop 2 (after-spaces h))

    same_flag : {x : List (Lex R)} {y : List (Lex Kind)} → InKind sense.kind x y → Grammar.is_flag sense n inner x ≡ Grammar.is_flag form n inner' y
    unfolding Grammar.is_flag map_lex form
    same_flag done = refl
    same_flag (more {a = byte c} h) = refl
    same_flag (more {a = mark} h) = refl
    same_flag (more {a = ref r} h) = refl
    same_flag (more {a = lone} h) = refl

    alike-element : Rule sense.kind (Grammar.element sense n inner) (Grammar.element form n inner')
    unfolding Grammar.element form
    alike-element x y h = alike-choose _ (first-is opening h) (alike_then (inners _ _ (after-rest h)) λ v w x y fit h. alike-closed v w fit h)
        (alike-choose _ (λ i. eqb (same-plain h i) apostrophe || same-attribute 84 h i) (alike_then (alike-string-within n x y h) λ s t x y fit h. alike-strings s t (after-spaces h))
        (alike-choose _ (same_flag h) (alike_then (alike-reference (alike-deeper n) h) λ r s x y fit h. both tt h)
        (alike_then (alike-arithmetic n x y h) λ a b x y fit k. alike-numbers a b h k)))

    alike-spaced : Rule sense.kind (Grammar.spaced sense n inner) (Grammar.spaced form n inner')
    unfolding Grammar.spaced
    alike-spaced x y h = alike_then (alike-element _ _ (after-spaces h)) λ v w x y fit h. both tt (after-spaces h)

    alike-negation : Rule sense.kind (Grammar.negation sense n inner) (Grammar.negation form n inner')
    unfolding Grammar.negation form is_word
    alike-negation x y h = alike-choose _ (ap (same (bytes "NOT")) (same_word (after-spaces h)))
        (alike_then (alike-spaced _ _ (after-drop 3 (after-spaces h))) λ v w x y fit h. both tt h) (alike-spaced _ _ (after-spaces h))

    alike-conjunction : Rule sense.kind (Grammar.conjunction sense n inner) (Grammar.conjunction form n inner')
    unfolding Grammar.conjunction form is_word
    alike-conjunction = alike-chain _ (λ x y h. ap (same (bytes "AND")) (same_word h)) (λ x y. after-drop 3) alike-negation

    alike-disjunction : Rule sense.kind (Grammar.disjunction sense n inner) (Grammar.disjunction form n inner')
    unfolding Grammar.disjunction form is_word
    alike-disjunction = alike-chain _ (λ x y h. ap (same (bytes "OR")) (same_word h)) (λ x y. after-drop 2) alike-conjunction

  alike-deeper-condition : (n : ℕ) → Rule sense.kind (Grammar.deeper_condition sense n) (Grammar.deeper_condition form n)
  unfolding Grammar.deeper_condition
  alike-deeper-condition zero x y h = rw (same_length h) neither
  alike-deeper-condition (suc n) x y h = alike-disjunction n (alike-deeper-condition n) x y h

  pub alike-condition : (n : ℕ) → Rule sense.kind (Grammar.condition sense n) (Grammar.condition form n)
  unfolding Grammar.condition
  alike-condition n x y h = alike-choose _ (first-is opening h) (alike_then (alike-deeper-condition n _ _ (after-rest h)) λ v w x y fit h. alike-closed v w fit h) (alike-broken h)
