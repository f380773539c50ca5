-- Document 01, "Values" and "Lines and fields": how texts and expressions are formed. What their terms and operators stand for is left open (`Sense`), so that
-- one grammar serves the test of form (specs/Form.antt) and the evaluation (specs/Evaluate.antt).
use Rattle.std.specs.Prelude.{ℕ, zero, suc, Bool, true, false, ◌&&◌, ◌||◌, not, List, [], ◌∷◌, map, eqb, ltb, length, take, drop}
use Rattle.std.proofs.Math.Option.{Option, none, some}
use Rattle.text.specs.Bytes.{Bytes, bytes, member, same}
use Rattle.text.specs.Characters.{letter, digit, letter_or_digit}
use Rattle.rules.specs.Choice.{choose, run, while}
use Rattle.rules.specs.Limits.{ill_formed, over_limit, bad_value}
use Rattle.rules.specs.Lexemes.{space, apostrophe, opening, closing, comma, period, Lex, byte, mark, ref, lone, byte_of}
use Rattle.rules.specs.Fields.{is_empty}
use Rattle.rules.specs.Statement.{Set, set_a, set_b, set_c}
use Rattle.rules.specs.Values.{Relation, eq, ne, lt, le, gt, ge, spelt}

-- what a variable symbol is in a macro
pub data Kind : Type 0 where
  parameter : Kind
  symbol : Set → Kind
  syslist : Kind
  sysndx : Kind
  sysect : Kind
  unknown : Kind

-- a reference: a variable symbol with its subscripts (none, one, or two of &SYSLIST)
pub record Reference (R N : Type 0) : Type 0 where
  pub of : R
  pub subscripts : List N

-- What reading gives: a value and the lexemes after it; or a refusal's number, and how many lexemes are left from the refused term or operator on.
pub data Got (A R : Type 0) : Type 0 where
  got : A → List (Lex R) → Got A R
  refused : ℕ → ℕ → Got A R

-- What terms and operators stand for: N is what an arithmetic expression gives, S a string or text, B a condition. Where it is `none` the value is refused (8).
pub record Sense (R N S B : Type 0) : Type 0 where
  pub kind : R → Kind
  pub number : ℕ → N
  pub term : Reference R N → Option N
  pub bytes_in : Reference R N → Option N
  pub entries_in : Reference R N → Option N
  pub operation : ℕ → N → N → Option N
  pub empty : S
  pub character : ℕ → S
  pub text_of : Reference R N → Option S
  pub joined : S → S → S
  pub measured : S → S
  pub substring_of : S → N → N → Option S
  pub type_in : Reference R N → Option S
  pub constant : Bool → B
  pub flag : R → B
  pub numbers : Relation → N → N → B
  pub strings : Relation → S → S → B
  pub negated : B → B
  pub both : B → B → B
  pub either : B → B → B

-- which references may stand where, by their kind and whether they have a subscript

-- 01: "A `(` directly after a SET symbol, &SYSNDX or &SYSECT is fault 4, and so is &SYSLIST without a subscript except after N'."
unfoldable pub in_text : Kind → Bool → Bool
in_text parameter bare = true
in_text (symbol k) bare = true
in_text syslist bare = not bare
in_text sysndx bare = true
in_text sysect bare = true
in_text unknown bare = false

-- 01: "Terms: .. SETA symbols, .. &SYSNDX, and parameter, &SYSLIST or SETC references"
unfoldable pub as_term : Kind → Bool → Bool
as_term parameter bare = true
as_term (symbol set_a) bare = true
as_term (symbol set_b) bare = false
as_term (symbol set_c) bare = true
as_term syslist bare = not bare
as_term sysndx bare = true
as_term sysect bare = false
as_term unknown bare = false

-- 01: "K', N' and T' take a parameter, an &SYSLIST operand or an entry of either. K' counts bytes, also of a SETC or system value."
unfoldable pub after_k : Kind → Bool → Bool
after_k parameter bare = true
after_k (symbol set_a) bare = false
after_k (symbol set_b) bare = false
after_k (symbol set_c) bare = true
after_k syslist bare = not bare
after_k sysndx bare = true
after_k sysect bare = true
after_k unknown bare = false

unfoldable pub after_n : Kind → Bool → Bool
after_n parameter bare = true
after_n (symbol k) bare = false
after_n syslist bare = true
after_n sysndx bare = false
after_n sysect bare = false
after_n unknown bare = false

unfoldable pub after_t : Kind → Bool → Bool
after_t parameter bare = true
after_t (symbol k) bare = false
after_t syslist bare = not bare
after_t sysndx bare = false
after_t sysect bare = false
after_t unknown bare = false

module _ {R : Type 0} where
  -- the text byte that stands first, 0 where none does
  unfoldable pub plain : List (Lex R) → ℕ
  plain [] = 0
  plain (x ∷ s) = byte_of x

  unfoldable pub rest : List (Lex R) → List (Lex R)
  rest x = drop 1 x

  unfoldable pub starts_mark : List (Lex R) → Bool
  starts_mark [] = false
  starts_mark (byte c ∷ x) = false
  starts_mark (mark ∷ x) = true
  starts_mark (ref r ∷ x) = false
  starts_mark (lone ∷ x) = false

  -- K', N' or T': the letter and an attribute mark
  unfoldable pub is_attribute : ℕ → List (Lex R) → Bool
  is_attribute c x = eqb (plain x) c && starts_mark (rest x)

  unfoldable pub past_spaces : List (Lex R) → List (Lex R)
  past_spaces x = drop (run (λ y. eqb (byte_of y) space) x) x

  -- a word of a condition: the whole run of letters and digits that stands first
  unfoldable pub word_at : List (Lex R) → Bytes
  word_at x = map byte_of (take (run (λ y. letter_or_digit (byte_of y)) x) x)

  unfoldable pub is_word : Bytes → List (Lex R) → Bool
  is_word w x = same w (word_at x)

  unfoldable pub relation_at : List (Lex R) → Option Relation
  relation_at x =
      let w = word_at x in
      choose (same w (bytes "EQ")) (some eq)
      (choose (same w (bytes "NE")) (some ne)
      (choose (same w (bytes "LT")) (some lt)
      (choose (same w (bytes "LE")) (some le) (choose (same w (bytes "GT")) (some gt) (choose (same w (bytes "GE")) (some ge) none)))))

  unfoldable pub then : {A W : Type 0} → Got A R → (A → List (Lex R) → Got W R) → Got W R
  then (got v x) k = k v x
  then (refused e left) k = refused e left

  -- the rules are broken here
  unfoldable pub broken : {A : Type 0} → List (Lex R) → Got A R
  broken x = refused ill_formed (length x)

  -- a value, where there is one; else the term or operator at `here` is refused
  unfoldable pub given : {A : Type 0} → Option A → List (Lex R) → List (Lex R) → Got A R
  given none here x = refused bad_value (length here)
  given (some v) here x = got v x

  unfoldable pub closed : {A : Type 0} → A → List (Lex R) → Got A R
  closed v x = choose (eqb (plain x) closing) (got v (rest x)) (broken x)

  -- nothing may be left
  unfoldable pub whole : {A : Type 0} → Got A R → Got A R
  whole (got v []) = got v []
  whole (got v (x ∷ s)) = broken (x ∷ s)
  whole (refused e left) = refused e left

  -- operands joined by operators, left to right: an operator stands where `goes` says so, its right operand behind `skip`
  module _ {A : Type 0} (goes : List (Lex R) → Bool) (skip : List (Lex R) → List (Lex R)) (operand : List (Lex R) → Got A R)
      (join : List (Lex R) → A → A → Option A)
    where
      unfoldable pub goes_on : Got A R → Bool
      goes_on (got v x) = goes x
      goes_on (refused e left) = false

      unfoldable pub turn : Got A R → Got A R
      turn (got v x) = then (operand (skip x)) λ w y. given (join x v w) x y
      turn (refused e left) = refused e left

      unfoldable pub chain : List (Lex R) → Got A R
      chain x = while goes_on turn (length x) (operand x)

module _ {R N S B : Type 0} (sense : Sense R N S B) where
  -- `inner` is an arithmetic expression one pair of parentheses further in
  module _ (inner : List (Lex R) → Got N R) where
    unfoldable pub subscripts : Kind → R → List (Lex R) → Got (Reference R N) R
    subscripts parameter r x = then (inner (rest x)) λ n y. closed (record { of = r; subscripts = n ∷ [] }) y
    subscripts (symbol k) r x = broken x
    subscripts syslist r x =
        then (inner (rest x)) λ n y. choose (eqb (plain y) comma) (then (inner (rest y)) λ m z. closed (record { of = r; subscripts = n ∷ m ∷ [] }) z)
        (closed (record { of = r; subscripts = n ∷ [] }) y)
    subscripts sysndx r x = broken x
    subscripts sysect r x = broken x
    subscripts unknown r x = broken x

    -- a variable symbol and the subscripts that begin directly after it
    unfoldable pub reference : List (Lex R) → Got (Reference R N) R
    reference [] = broken []
    reference (byte c ∷ x) = broken (byte c ∷ x)
    reference (mark ∷ x) = broken (mark ∷ x)
    reference (ref r ∷ x) = choose (eqb (plain x) opening) (subscripts (sense.kind r) r x) (got (record { of = r; subscripts = [] }) x)
    reference (lone ∷ x) = broken (lone ∷ x)

    -- a reference of a kind that may stand here, as what it stands for; `here` is where the term starts
    unfoldable pub referred : {A : Type 0} → (Kind → Bool → Bool) → (Reference R N → Option A) → List (Lex R) → List (Lex R) → Got A R
    referred takes value here x = then (reference x) λ r y. choose (takes (sense.kind r.of) (is_empty r.subscripts)) (given (value r) here y) (broken here)

    -- a decimal number: 2147483647 at most, and no letter directly after it
    unfoldable pub decimal_number : List (Lex R) → Got N R
    decimal_number x =
        let n = run (λ y. digit (byte_of y)) x in
        let value = spelt 0 (map byte_of (take n x)) in
        choose (ltb 2147483647 value || letter (plain (drop n x))) (broken x) (got (sense.number value) (drop n x))

    unfoldable pub term : List (Lex R) → Got N R
    term x =
        choose (eqb (plain x) opening) (then (inner (rest x)) closed)
        (choose (digit (plain x)) (decimal_number x)
        (choose (is_attribute 75 x) (referred after_k sense.bytes_in x (drop 2 x))
        (choose (is_attribute 78 x) (referred after_n sense.entries_in x (drop 2 x)) (referred as_term sense.term x x))))

    -- 01: "`+ - * /`, the last two binding tighter, left to right, parentheses, no sign in front."
    unfoldable pub product : List (Lex R) → Got N R
    product x = chain (λ y. member (plain y) (bytes "*/")) rest term (λ y. sense.operation (plain y)) x

    unfoldable pub sum : List (Lex R) → Got N R
    sum x = chain (λ y. member (plain y) (bytes "+-")) rest product (λ y. sense.operation (plain y)) x

    -- one piece of a text: a byte, or a reference with the period that is removed after it
    unfoldable pub piece : List (Lex R) → Got S R
    piece [] = broken []
    piece (byte c ∷ x) = got (sense.character c) x
    piece (mark ∷ x) = got (sense.character apostrophe) x
    piece (ref r ∷ x) = then (referred in_text sense.text_of (ref r ∷ x) (ref r ∷ x)) λ s y. got s (choose (eqb (plain y) period) (rest y) y)
    piece (lone ∷ x) = broken (lone ∷ x)

    unfoldable pub add_piece : Got S R → Got S R
    add_piece (got s x) = then (piece x) λ t y. got (sense.joined s t) y
    add_piece (refused e left) = refused e left

    unfoldable pub goes_on_text : Got S R → Bool
    goes_on_text (got s x) = not (is_empty x)
    goes_on_text (refused e left) = false

    -- a text to its end. 01: "In text a period directly after a reference is removed."
    unfoldable pub text : List (Lex R) → Got S R
    text x = while goes_on_text add_piece (length x) (got sense.empty x)

    -- 01: "`''` is one apostrophe."
    unfoldable pub is_doubled : List (Lex R) → Bool
    is_doubled x = eqb (plain x) apostrophe && eqb (plain (rest x)) apostrophe

    unfoldable pub add_quoted : Got S R → Got S R
    add_quoted (got s x) = choose (is_doubled x) (got (sense.joined s (sense.character apostrophe)) (drop 2 x)) (add_piece (got s x))
    add_quoted (refused e left) = refused e left

    unfoldable pub goes_on_quoted : Got S R → Bool
    goes_on_quoted (got s x) = is_doubled x || not (is_empty x || eqb (plain x) apostrophe)
    goes_on_quoted (refused e left) = false

    -- what stands between quotes, and the quote that closes it
    unfoldable pub quoted_text : List (Lex R) → Got S R
    quoted_text x = then (while goes_on_quoted add_quoted (length x) (got sense.empty x)) λ s y. choose (eqb (plain y) apostrophe) (got (sense.measured s) (rest y)) (broken y)

    -- `(start,count)` behind a string, whose term starts at `here`
    unfoldable pub substringed : List (Lex R) → S → List (Lex R) → Got S R
    substringed here s x = choose (eqb (plain x) opening)
        (then (inner (rest x)) λ start y. choose (eqb (plain y) comma)
        (then (inner (rest y)) λ count z. then (closed count z) λ last w. given (sense.substring_of s start last) here w)
        (broken y))
        (got s x)

    unfoldable pub string : List (Lex R) → Got S R
    string x = choose (eqb (plain x) apostrophe) (then (quoted_text (rest x)) λ s y. substringed x s y) (broken x)

    -- 01: "Quoted strings, each with an optional `(start,count)`, joined by periods; or T' alone."
    unfoldable pub characters : List (Lex R) → Got S R
    characters x = choose (is_attribute 84 x) (referred after_t sense.type_in x (drop 2 x))
        (then (chain (λ y. eqb (plain y) period) rest string (λ y s t. some (sense.joined s t)) x) λ s y. got (sense.measured s) y)

  -- one pair of parentheses further in, where `n` more may be opened
  unfoldable pub deeper : ℕ → List (Lex R) → Got N R
  deeper zero x = refused over_limit (length x)
  deeper (suc n) x = sum (deeper n) x

  -- an arithmetic expression in which `n` pairs of parentheses may be open at once; a text, and a SETC expression
  unfoldable pub arithmetic : ℕ → List (Lex R) → Got N R
  arithmetic n x = sum (deeper n) x

  unfoldable pub text_within : ℕ → List (Lex R) → Got S R
  text_within n x = text (deeper n) x

  unfoldable pub string_within : ℕ → List (Lex R) → Got S R
  string_within n x = characters (deeper n) x

  -- conditions. `inner` is a condition one pair of parentheses further in
  module _ (n : ℕ) (inner : List (Lex R) → Got B R) where
    -- 01: "Both sides are arithmetic or both are SETC expressions. An arithmetic side does not begin with `(`."
    unfoldable pub compared_strings : S → List (Lex R) → Got B R
    compared_strings s x = elim (relation_at x) [
      | none ↦ broken x
      | some r ↦ then (string_within n (past_spaces (drop 2 x))) λ t y. got (sense.strings r s t) y
    ]

    -- the element is exactly the digit that stands first: nothing of it is behind `x`
    unfoldable pub is_digit_alone : ℕ → List (Lex R) → List (Lex R) → Bool
    is_digit_alone c here x = eqb (plain here) c && eqb (length here) (suc (length x))

    unfoldable pub constant_at : List (Lex R) → List (Lex R) → Got B R
    constant_at here x =
        choose (is_digit_alone 48 here x) (got (sense.constant false) x)
        (choose (is_digit_alone 49 here x) (got (sense.constant true) x) (broken here))

    unfoldable pub compared_numbers : List (Lex R) → N → List (Lex R) → Got B R
    compared_numbers here a x = elim (relation_at (past_spaces x)) [
      | none ↦ constant_at here x
      | some r ↦
          let y = past_spaces (drop 2 (past_spaces x)) in
          choose (eqb (plain y) opening) (broken y) (then (arithmetic n y) λ b z. got (sense.numbers r a b) z)
    ]

    unfoldable pub is_flag : List (Lex R) → Bool
    is_flag [] = false
    is_flag (byte c ∷ x) = false
    is_flag (mark ∷ x) = false
    is_flag (ref r ∷ x) = elim (sense.kind r) [ parameter ↦ false | symbol k ↦ elim k [ set_a ↦ false | set_b ↦ true | set_c ↦ false ] | syslist ↦ false | sysndx ↦ false | sysect ↦ false | unknown ↦ false ]
    is_flag (lone ∷ x) = false

    -- 01: "`(..)` over SETB symbols, 0, 1, comparisons EQ NE LT LE GT GE, parentheses"
    unfoldable pub element : List (Lex R) → Got B R
    element x =
        choose (eqb (plain x) opening) (then (inner (rest x)) closed)
        (choose (eqb (plain x) apostrophe || is_attribute 84 x) (then (string_within n x) λ s y. compared_strings s (past_spaces y))
        (choose (is_flag x) (then (reference (deeper n) x) λ r y. got (sense.flag r.of) y)
        (then (arithmetic n x) λ a y. compared_numbers x a y)))

    -- spaces may stand around an element
    unfoldable pub spaced : List (Lex R) → Got B R
    spaced x = then (element (past_spaces x)) λ b y. got b (past_spaces y)

    -- 01: "NOT before AND before OR."
    unfoldable pub negation : List (Lex R) → Got B R
    negation x =
        let y = past_spaces x in
        choose (is_word (bytes "NOT") y) (then (spaced (drop 3 y)) λ b z. got (sense.negated b) z) (spaced y)

    unfoldable pub conjunction : List (Lex R) → Got B R
    conjunction x = chain (is_word (bytes "AND")) (drop 3) negation (λ y a b. some (sense.both a b)) x

    unfoldable pub disjunction : List (Lex R) → Got B R
    disjunction x = chain (is_word (bytes "OR")) (drop 2) conjunction (λ y a b. some (sense.either a b)) x

  unfoldable pub deeper_condition : ℕ → List (Lex R) → Got B R
  deeper_condition zero x = refused over_limit (length x)
  deeper_condition (suc n) x = disjunction n (deeper_condition n) x

  -- 01: "SETB and AIF: `(..)` .."
  unfoldable pub condition : ℕ → List (Lex R) → Got B R
  condition n x = choose (eqb (plain x) opening) (then (deeper_condition n (rest x)) closed) (broken x)
