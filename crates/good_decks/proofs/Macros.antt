-- A macro read in one pass with tests on the way is the macro that the coding reads, if it passes the test of good form. Assumes nothing.
use Prim.Native.Nat.{ℕ, zero, suc, ◌+◌}
use mathlib.Core.Path.{◌≡◌, refl, sym, ap, ◌∙◌}
use mathlib.Core.Bool.{Bool, true, false, ◌&&◌}
use mathlib.Core.List.{List, [], ◌∷◌}
use mathlib.Core.Option.{none, some}
use native.Mathlib.Omega.{arith}
use lib.Dec.{leb, ltb}
use lib.ListN.{length}
use borrow.Author.Tests.{lt-ltb}
use Rattle.text.specs.Bytes.{Bytes}
use Rattle.rules.specs.Choice.{choose, every, any}
use Rattle.rules.specs.Limits.{library_limit, parameter_limit, local_limit, nest_limit}
use Rattle.rules.specs.Statement.{Set, Line, map_line}
use Rattle.rules.specs.Form.{is_formed}
use Rattle.rules.specs.Faults.{is_macro_name}
use Rattle.deck.specs.Slots.{Slot, own, shared, list, index, section, nowhere, DeckMacro, parameters, own_kinds_of, slot_kind}
use Rattle.deck.specs.Coding.{Read, after, Coder, two, get_all, pair, list_of, via, made}
use Rattle.deck.specs.Coders.{string, kind, flag, line, macro, macro_of}
use Rattle.deck.specs.AsRead.{is_read_line, is_read_default}
use Rattle.deck.specs.Good.{is_keyword, are_distinct_keywords, are_lexemes, is_in_order, is_line, ends_once, actr_end, counts_once, is_macro, is_read_macro}
use Rattle.good_decks.specs.Walk.{need, sift, hold_from, unseen, seen_after, is_line_of, is_line_here, good_line, good_lines, is_new, is_keyword_here, keyword_after, good_keyword, good_keywords, head_of, with_lines, Gone, good_body, good_macro}
use Rattle.good_decks.proofs.Passes.{after_same, after-after, pair-after, need-after, sift-after, after-sift, need-need, walk-all}
use Rattle.good_decks.proofs.Bodies.{hold-both, hold-plain, lines-walked}
use Rattle.good_decks.proofs.Names.{names-distinct, keywords-distinct}
use Rattle.good_decks.proofs.Together.{test, both, together}

pub sift-same : {A : Type 0} {f g : A → Bool} → ((a : A) → f a ≡ g a) → (r : Read A) → sift f r ≡ sift g r
unfolding sift
sift-same e none = refl
sift-same e (some r) = ap (λ (b : Bool). choose b (some r) none) (e r.0)

-- what a test needs of things behind a reading
module _ {A B : Type 0} (t : B → Bool) (b : Bool) (r : Read A) (j k : A → Bytes → Read B) where
  behind : ((a : A) (s : Bytes) → need b (j a s) ≡ sift t (k a s)) → need b (after r j) ≡ sift t (after r k)
  behind e = need-after b r j ∙ (after_same r e ∙ sym (sift-after t r k))

  behind-sift : (q : A → Bool) → ((a : A) (s : Bytes) → need (b && q a) (j a s) ≡ sift t (k a s)) → need b (after (sift q r) j) ≡ sift t (after r k)
  behind-sift q e = ap (need b) (after-sift q r j) ∙ (need-after b r (λ a s. need (q a) (j a s)) ∙ (after_same r (λ a s. need-need b (q a) (j a s) ∙ e a s) ∙ sym (sift-after t r k)))

-- ---- keywords

unfoldable pub are_keywords : List (Bytes × Bytes) → Bool
are_keywords ks = every is_keyword ks && (every (λ k. is_read_default k.1) ks && are_distinct_keywords ks)

keywords-hold : (ks : List (Bytes × Bytes)) → hold_from is_keyword_here keyword_after [] ks ≡ are_keywords ks
unfolding is_keyword_here keyword_after are_keywords
keywords-hold ks =
    let next = keyword_after in
    hold-both next (λ names k. is_keyword k) (λ names k. is_read_default k.1 && is_new names k.0) [] ks
    ∙ (ap (λ (b : Bool). hold_from (λ (names : List Bytes) k. is_keyword k) next [] ks && b) (hold-both next (λ names k. is_read_default k.1) (λ names k. is_new names k.0) [] ks)
    ∙ λ j. hold-plain next is_keyword [] ks j && (hold-plain next (λ k. is_read_default k.1) [] ks j && (names-distinct (λ k. k.0) ks ∙ sym (keywords-distinct ks)) j))

pub keywords-pass : (s : Bytes) → good_keywords s ≡ sift are_keywords ((list_of (pair string string)).get s)
unfolding good_keywords good_keyword list_of
keywords-pass s =
    after_same (two.get s) (λ n t. walk-all (pair string string) is_keyword_here keyword_after good_keyword (λ names s. refl) n [] t ∙ sift-same keywords-hold (get_all (pair string string) n t))
    ∙ sym (sift-after are_keywords (two.get s) (λ n t. get_all (pair string string) n t))

-- ---- a body

-- as many things are read as were asked for
unfoldable pub Counted : {A : Type 0} → ℕ → Read (List A) → Type 0
Counted n none = n ≡ n
Counted n (some r) = length r.0 ≡ n

pub read_count : {A : Type 0} (c : Coder A) (n : ℕ) (s : Bytes) → Counted n (get_all c n s)
unfolding Counted get_all after
read_count c zero s = refl
read_count {A} c (suc n) s = first (c.get s) (λ t. read_count c n t)
  where
    more : (a : A) (r : Read (List A)) → Counted n r → Counted (suc n) (after r λ l u. some (a ∷ l, u))
    more a none e = refl
    more a (some r) e = ap suc e

    first : (r : Read A) → ((t : Bytes) → Counted n (get_all c n t)) → Counted (suc n) (after r λ a t. after (get_all c n t) λ l u. some (a ∷ l, u))
    first none e = refl
    first (some r) e = more r.0 (get_all c n r.1) (e r.1)

-- a test of what was counted
module _ {A B : Type 0} (n : ℕ) (b : Bool) (q : List A → Bool) (made : List A → B) (t : B → Bool) (e : (l : List A) → length l ≡ n → (b && q l) ≡ t (made l)) where
  counted-pass : (r : Read (List A)) → Counted n r → need b (after (sift q r) λ l u. some (made l, u)) ≡ sift t (after r λ l u. some (made l, u))
  unfolding Counted need sift after choose
  counted-pass none h = nothing b
    where
      absent : Read B
      absent = none

      nothing : (b : Bool) → choose b absent none ≡ none
      nothing true = refl
      nothing false = refl
  counted-pass (some r) h = told b (q r.0) (t (made r.0)) (e r.0 h)
    where
      told : (x y z : Bool) → (x && y) ≡ z → choose x (after (choose y (some r) none) λ l u. some (made l, u)) none ≡ choose z (some (made r.0, r.1)) none
      told true true z f = ap (λ (b : Bool). choose b (some (made r.0, r.1)) none) f
      told true false z f = ap (λ (b : Bool). choose b (some (made r.0, r.1)) none) f
      told false y z f = ap (λ (b : Bool). choose b (some (made r.0, r.1)) none) f

-- a macro in good form among those before it
unfoldable pub is_macro_here : List Set → Gone → DeckMacro → Bool
is_macro_here globals g m = is_macro globals m && (is_read_macro m && (is_new g.titles m.title && leb (g.total + length m.lines) library_limit))

-- the kinds of slots do not look at the lines, and a test of a line asks only how many there are
module _ (globals : List Set) (h : DeckMacro) (ls : List (Line Slot ℕ)) where
  kinds-of : (s : Slot) → slot_kind globals (with_lines h ls) s ≡ slot_kind globals h s
  unfolding slot_kind own_kinds_of parameters with_lines
  kinds-of (own p) = refl
  kinds-of (shared p) = refl
  kinds-of list = refl
  kinds-of index = refl
  kinds-of section = refl
  kinds-of nowhere = refl

  pub line_of : (actr : ℕ) (l : Line Slot ℕ) → is_line_of globals h (length ls) actr l ≡ is_line globals (with_lines h ls) actr l
  unfolding is_line is_line_of with_lines
  line_of actr l =
      λ j. is_in_order actr (length ls) l.does && (are_lexemes l.name && (are_lexemes l.operation && (are_lexemes l.operand && is_formed nest_limit (map_line (λ s. sym (kinds-of s) j) (λ t. t) l))))

module _ (globals : List Set) (g : Gone) (title : Bytes) (named : Bool) (positionals : ℕ) (keywords : List (Bytes × Bytes)) (locals : List Set) where
  abbrev head : DeckMacro
  head = head_of title named positionals keywords locals

  -- what has been tested before the lines
  abbrev ahead : ℕ → Bool
  ahead count =
      ((((is_macro_name title && is_new g.titles title) && are_keywords keywords) && leb (parameters head) parameter_limit) && leb (length locals) local_limit)
      && (ltb 0 count && leb (g.total + count) library_limit)

  abbrev whole : List (Line Slot ℕ) → DeckMacro
  whole ls = with_lines head ls

  none-tested : (ahead 0 && hold_from (is_line_here globals head 0) seen_after unseen []) ≡ is_macro_here globals g (whole [])
  unfolding is_macro_here is_macro with_lines head_of ends_once
  none-tested =
      let tested = (((is_macro_name title && is_new g.titles title) && are_keywords keywords) && leb (parameters head) parameter_limit) && leb (length locals) local_limit in
      left tested _ ∙ sym (right (is_macro_name title) (leb (parameters (whole [])) parameter_limit) (leb (length locals) local_limit) (every is_keyword keywords) (are_distinct_keywords keywords) _)
    where
      left : (x z : Bool) → ((x && false) && z) ≡ false
      left true z = refl
      left false z = refl

      right : (a b c d e z : Bool) → ((a && (b && (c && (d && (e && false))))) && z) ≡ false
      right false b c d e z = refl
      right true false c d e z = refl
      right true true false d e z = refl
      right true true true false e z = refl
      right true true true true false z = refl
      right true true true true true z = refl

  some-tested : (l : Line Slot ℕ) (ls : List (Line Slot ℕ)) → (ahead (length (l ∷ ls)) && hold_from (is_line_here globals head (length (l ∷ ls))) seen_after unseen (l ∷ ls)) ≡ is_macro_here globals g (whole (l ∷ ls))
  unfolding is_macro_here is_macro is_read_macro with_lines head_of are_keywords parameters any
  some-tested l ls =
      let body = l ∷ ls in
      let count = length body in
      let there : ltb 0 count ≡ true = lt-ltb 0 count (omega arith) in
      let named-well = is_macro_name title in
      let new = is_new g.titles title in
      let defined = every is_keyword keywords in
      let as_read = every (λ k. is_read_default k.1) keywords in
      let distinct = are_distinct_keywords keywords in
      let few-parameters = leb (parameters head) parameter_limit in
      let few-locals = leb (length locals) local_limit in
      let few-lines = leb (g.total + count) library_limit in
      let in_order = every (is_line globals (whole body) (actr_end body)) body in
      let lines-read = every is_read_line body in
      (λ j. ((((((named-well && new) && (defined && (as_read && distinct))) && few-parameters) && few-locals) && (there j && few-lines)) && lines-walked globals head count l ls refl j))
      ∙ (ap (λ (b : Bool). ((((((named-well && new) && (defined && (as_read && distinct))) && few-parameters) && few-locals) && few-lines) && (ends_once body && (counts_once body && (b && lines-read)))))
      (λ j. every (λ k. line_of globals head body (actr_end body) k j) body)
      ∙ together (named-well ∷ new ∷ defined ∷ as_read ∷ distinct ∷ few-parameters ∷ few-locals ∷ few-lines ∷ ends_once body ∷ counts_once body ∷ in_order ∷ lines-read ∷ [])
      (both (both (both (both (both (both (test 0) (test 1)) (both (test 2) (both (test 3) (test 4)))) (test 5)) (test 6)) (test 7)) (both (test 8) (both (test 9) (both (test 10) (test 11)))))
      (both (both (test 0) (both (test 5) (both (test 6) (both (test 2) (both (test 4) (both (test 8) (both (test 9) (test 10))))))))
      (both (both (test 11) (test 3)) (both (test 1) (test 7))))
      refl refl)

  -- all tests on the way, and the test of the whole
  all_tested : (count : ℕ) (ls : List (Line Slot ℕ)) → length ls ≡ count → (ahead count && hold_from (is_line_here globals head count) seen_after unseen ls) ≡ is_macro_here globals g (whole ls)
  all_tested count ls e = ap (λ (n : ℕ). ahead n && hold_from (is_line_here globals head n) seen_after unseen ls) (sym e) ∙ cases ls
    where
      cases : (ls : List (Line Slot ℕ)) → (ahead (length ls) && hold_from (is_line_here globals head (length ls)) seen_after unseen ls) ≡ is_macro_here globals g (whole ls)
      cases [] = none-tested
      cases (l ∷ ls) = some-tested l ls

  -- the body behind a head that was tested
  abbrev before-body : Bool
  before-body = (((is_macro_name title && is_new g.titles title) && are_keywords keywords) && leb (parameters head) parameter_limit) && leb (length locals) local_limit

  body-pass : (s : Bytes) → need before-body (good_body globals g.total head s) ≡ sift (is_macro_here globals g) (after ((list_of line).get s) λ ls u. some (whole ls, u))
  unfolding good_body good_lines good_line list_of
  body-pass s =
      let t = is_macro_here globals g in
      let here : ℕ → Bool = λ count. ltb 0 count && leb (g.total + count) library_limit in
      behind t before-body (two.get s) _ _ (λ count u.
      need-need before-body (here count) _
      ∙ (ap (λ r. need (ahead count) (after r λ ls v. some (whole ls, v))) (walk-all line (is_line_here globals head count) seen_after (good_line globals head count) (λ p s. refl) count unseen u)
      ∙ counted-pass count (ahead count) (hold_from (is_line_here globals head count) seen_after unseen) whole t (all_tested count) (get_all line count u) (read_count line count u)))
      ∙ ap (sift t) (sym (after-after (two.get s) (λ n t. get_all line n t) (λ ls u. some (whole ls, u))))

-- the coding of a macro, one thing after another
macro-flat : (s : Bytes) → macro.get s ≡ (after (string.get s) λ title t. after (flag.get t) λ named u. after (two.get u) λ positionals v.
    after ((list_of (pair string string)).get v) λ keywords w. after ((list_of kind).get w) λ locals x. after ((list_of line).get x) λ ls y. some (with_lines (head_of title named positionals keywords locals) ls, y))
unfolding macro via made macro_of with_lines head_of
macro-flat s =
    pair-after string _ s _ ∙ after_same (string.get s) (λ title t. pair-after flag _ t _ ∙ after_same (flag.get t) (λ named u. pair-after two _ u _ ∙ after_same (two.get u) (λ positionals v.
    pair-after (list_of (pair string string)) _ v _ ∙ after_same ((list_of (pair string string)).get v) (λ keywords w. pair-after (list_of kind) (list_of line) w _))))

-- A MACRO IN ONE PASS
pub macro-pass : (globals : List Set) (g : Gone) (s : Bytes) → good_macro globals g s ≡ sift (is_macro_here globals g) (macro.get s)
unfolding good_macro parameters head_of
macro-pass globals g s =
    let t = is_macro_here globals g in
    after_same (string.get s) (λ title s.
    let b = is_macro_name title && is_new g.titles title in
    behind t b (flag.get s) _ _ (λ named s. behind t b (two.get s) _ _ (λ positionals s.
    let rest : List (Bytes × Bytes) → Bytes → Read DeckMacro = λ keywords w. need (leb (parameters (head_of title named positionals keywords [])) parameter_limit)
    (after ((list_of kind).get w) λ locals x. need (leb (length locals) local_limit) (good_body globals g.total (head_of title named positionals keywords locals) x)) in
    ap (λ r. need b (after r rest)) (keywords-pass s) ∙ behind-sift t b ((list_of (pair string string)).get s) _ _ are_keywords (λ keywords s.
    need-need (b && are_keywords keywords) (leb (parameters (head_of title named positionals keywords [])) parameter_limit) _
    ∙ behind t _ ((list_of kind).get s) _ _ (λ locals s. need-need _ _ _ ∙ body-pass globals g title named positionals keywords locals s)))))
    ∙ (sym (sift-after t (string.get s) _) ∙ ap (sift t) (sym (macro-flat s)))
