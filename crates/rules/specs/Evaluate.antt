-- Document 01, "Values": what references, expressions and conditions stand for when a line is carried out.
use Rattle.std.specs.Prelude.{ℕ, pred, Bool, false, ◌&&◌, ◌||◌, not, List, [], ◌∷◌, ◌++◌, ltb, length, get_or, set, ℤ, pos}
use Rattle.std.proofs.Math.Option.{Option, none, some}
use Rattle.text.specs.Bytes.{Bytes}
use Rattle.rules.specs.Limits.{string_limit}
use Rattle.rules.specs.Statement.{set_a, set_b, set_c}
use Rattle.rules.specs.Values.{operate, shown_number, shown_truth, four_digits, magnitude, number_in, type_of, substring, string_order, number_order, holds, number_of_entries, entry, listed}
use Rattle.rules.specs.Grammar.{Kind, parameter, symbol, syslist, sysndx, sysect, unknown, Reference, Sense}

-- what a SET symbol or a parameter holds
pub data Value : Type 0 where
  number : ℤ → Value
  truth : Bool → Value
  string : Bytes → Value

-- a level's own values (its parameters, then its locals), and the values of the globals, each in the order of declaration
pub record Store : Type 0 where
  pub own : List Value
  pub shared : List Value

-- What a variable symbol stands for while a line is carried out: its kind, its value, &SYSLIST's list (the call's name, then its positionals), and the
-- store after a new value.
pub record Cell : Type 0 where
  pub kind : Kind
  pub value : Value
  pub list : List Bytes
  pub store : Value → Store

unfoldable pub own_cell : Kind → Store → ℕ → Cell
own_cell k st i = record { kind = k; value = get_or st.own i (string []); list = []; store = λ v. record { own = set st.own i v; shared = st.shared } }

unfoldable pub shared_cell : Kind → Store → ℕ → Cell
shared_cell k st i = record { kind = k; value = get_or st.shared i (string []); list = []; store = λ v. record { own = st.own; shared = set st.shared i v } }

-- a system symbol; nothing is stored in it
unfoldable pub system_cell : Kind → Store → Value → List Bytes → Cell
system_cell k st v l = record { kind = k; value = v; list = l; store = λ w. st }

unfoldable pub number_of : Value → ℤ
number_of (number z) = z
number_of (truth b) = pos 0
number_of (string s) = pos 0

unfoldable pub truth_of : Value → Bool
truth_of (number z) = false
truth_of (truth b) = b
truth_of (string s) = false

-- a value in text
unfoldable pub shown : Value → Bytes
shown (number z) = shown_number z
shown (truth b) = shown_truth b
shown (string s) = s

unfoldable pub and_then : {A B : Type 0} → Option A → (A → Option B) → Option B
and_then none k = none
and_then (some a) k = k a

-- 01: "`&P(n)` is entry n .."
unfoldable pub of_parameter : Bytes → List ℤ → Option Bytes
of_parameter s [] = some s
of_parameter s (n ∷ m) = entry s n

-- 01: "&SYSLIST(n) positional n (empty past the last), &SYSLIST(n,m) its entry, for n = 0 too"
unfoldable pub of_list : List Bytes → List ℤ → Option Bytes
of_list l [] = some []
of_list l (n ∷ []) = listed l n
of_list l (n ∷ (m ∷ k)) = and_then (listed l n) λ s. entry s m

-- the text that a reference stands for
unfoldable pub text_of : Reference Cell ℤ → Option Bytes
text_of r = elim r.of.kind [
  | parameter ↦ of_parameter (shown r.of.value) r.subscripts
  | symbol k ↦ some (shown r.of.value)
  | syslist ↦ of_list r.of.list r.subscripts
  | sysndx ↦ some (four_digits (magnitude (number_of r.of.value)))
  | sysect ↦ some (shown r.of.value)
  | unknown ↦ some []
]

-- "SETA symbols .., &SYSNDX" are numbers; "parameter, &SYSLIST or SETC references whose value is 1 to 10 digits within range"
unfoldable pub as_number : Reference Cell ℤ → Option ℤ
as_number r = elim r.of.kind [
  | parameter ↦ and_then (text_of r) number_in
  | symbol k ↦ elim k [ set_a ↦ some (number_of r.of.value) | set_b ↦ and_then (text_of r) number_in | set_c ↦ and_then (text_of r) number_in ]
  | syslist ↦ and_then (text_of r) number_in
  | sysndx ↦ some (number_of r.of.value)
  | sysect ↦ and_then (text_of r) number_in
  | unknown ↦ none
]

unfoldable pub count_bytes : Reference Cell ℤ → Option ℤ
count_bytes r = and_then (text_of r) λ s. some (pos (length s))

-- 01: "N'&SYSLIST counts positionals, omitted ones too."
unfoldable pub count_entries : Reference Cell ℤ → Option ℤ
count_entries r = elim r.of.kind [
  | parameter ↦ of_text
  | symbol k ↦ of_text
  | syslist ↦ elim r.subscripts [ [] ↦ some (pos (pred (length r.of.list))) | n ∷ m ↦ of_text ]
  | sysndx ↦ of_text
  | sysect ↦ of_text
  | unknown ↦ of_text
]
  where
    of_text : Option ℤ
    of_text = and_then (text_of r) λ s. some (pos (number_of_entries s))

-- A string with its true length, and whether one on the way to it was over 255 bytes. 01: "SETC: 0 to 255 bytes, in conditions and before substrings too."
pub record Chars : Type 0 where
  pub bytes : Bytes
  pub over : Bool

pub record Truth : Type 0 where
  pub holds : Bool
  pub over : Bool

unfoldable pub chars : Bytes → Chars
chars s = record { bytes = s; over = false }

unfoldable pub chars_if : Option Bytes → Option Chars
chars_if none = none
chars_if (some s) = some (chars s)

unfoldable pub joined_chars : Chars → Chars → Chars
joined_chars s t = record { bytes = s.bytes ++ t.bytes; over = s.over || t.over }

unfoldable pub measured_chars : Chars → Chars
measured_chars s = record { bytes = s.bytes; over = s.over || ltb string_limit (length s.bytes) }

unfoldable pub substring_chars : Chars → ℤ → ℤ → Option Chars
substring_chars s start count = and_then (substring s.bytes start count) λ t. some (record { bytes = t; over = s.over })

unfoldable pub type_chars : Reference Cell ℤ → Option Chars
type_chars r = and_then (text_of r) λ s. some (chars (type_of s))

unfoldable pub certain : Bool → Truth
certain b = record { holds = b; over = false }

unfoldable pub values : Sense Cell ℤ Chars Truth
values = record {
  kind = λ c. c.kind;
  number = pos;
  term = as_number;
  bytes_in = count_bytes;
  entries_in = count_entries;
  operation = operate;
  empty = chars [];
  character = λ c. chars (c ∷ []);
  text_of = λ r. chars_if (text_of r);
  joined = joined_chars;
  measured = measured_chars;
  substring_of = substring_chars;
  type_in = type_chars;
  constant = certain;
  flag = λ c. certain (truth_of c.value);
  numbers = λ r a b. certain (holds r (number_order a b));
  strings = λ r s t. record { holds = holds r (string_order s.bytes t.bytes); over = s.over || t.over };
  negated = λ b. record { holds = not b.holds; over = b.over };
  both = λ a b. record { holds = a.holds && b.holds; over = a.over || b.over };
  either = λ a b. record { holds = a.holds || b.holds; over = a.over || b.over };
}
