-- One part of a written operand, as its first bare `=` tells it; and the operands of a call as its parts tell them. Assumes nothing.
use Prim.Native.Nat.{ℕ, zero, suc, min, ◌+◌, ◌-◌, ◌<◌}
use native.Mathlib.Omega.{arith}
use mathlib.Core.Path.{◌≡◌, refl, ap, sym, ◌∙◌}
use mathlib.Core.Bool.{Bool, true, false, ◌&&◌, not, false≢true}
use mathlib.Core.List.{List, [], ◌∷◌, map}
use mathlib.Core.Option.{none, some}
use lib.ListN.{length, take, drop, drop_of_length-le}
use Rattle.std.proofs.lemmas.List.{take_rest}
use lib.Dec.{leb}
use borrow.Author.Tests.{ltb-true, lt-ltb, le-ltb, leb-true, leb-false}
use Rattle.text.specs.Bytes.{Bytes, same}
use Rattle.rules.specs.Choice.{every, run}
use Rattle.rules.specs.Limits.{name_limit}
use Rattle.rules.specs.Lexemes.{equals, byte_of, lexed, unlexed, is_plain, is_name, outside}
use Rattle.rules.specs.Calls.{pair_up, divided, has_equals, gathered, operands_of, map_keywords, map_operands}
use Rattle.rules.specs.Faults.{before_equals}
use Rattle.rules.specs.Machine.{written_operands}
use Rattle.rules.proofs.Choices.{by, chosen, passed_over, and_left, and_right}
use Rattle.rules.proofs.Lossless.{lexed-back}
use Rattle.parts.specs.Parts.{bare_at, parts_of}
use Rattle.parts.proofs.Told.{before-is, has-equals-is, default-bytes}
use Rattle.parts.proofs.Divided.{divided-cut}
use Rattle.declared.proofs.Keyword.{before-told, has-told, default-told}
use Rattle.call_operands.specs.Calling.{name_of, value_of, pair_of, is_keyword, named_among, may_stand, are_operands, leading, split_at, keyword_in, operands_in}
use Rattle.std.specs.Prelude.{Some}
use Rattle.call_operands.proofs.Gathered.{step-keyword, step-plain, gathered-is}
use Rattle.call_operands.proofs.Names.{Lexes, name-lettered, read_name, name-told, same-told}

-- ---- one part, cut at `end`

module _ (p : Bytes) (end : ℕ) (e : end ≡ 0 + bare_at equals p) where
  abbrev x : Lexes
  x = lexed true p

  abbrev written : Bytes
  written = take end p

  name-is : name_of x ≡ map byte_of (lexed true written)
  unfolding name_of before_equals
  name-is = ap (map byte_of) (before-told p end e)

  pub named-same : (n : Bytes) → is_name name_limit n ≡ true → same written n ≡ same (name_of x) n
  named-same n t = same-told written n (name-lettered name_limit n t) ∙ ap (λ (k : Bytes). same k n) (sym name-is)

  -- the part may stand before others, test by test
  module _ (k : Bool) (xs : List Lexes) where
    pub stand-plain : end ≡ length p → not k ≡ may_stand k x xs
    unfolding may_stand
    stand-plain h = sym (passed_over _ _ (has-told p end e ∙ le-ltb end (length p) (omega (arith, h))))

    module _ (h : end < length p) where
      has : has_equals x ≡ true
      has = has-told p end e ∙ lt-ltb end (length p) h

      stand-is : may_stand k x xs ≡ ((is_name name_limit written && not (has_equals (lexed true (drop (end + 1) p)))) && not (named_among (name_of x) xs))
      unfolding may_stand is_keyword value_of
      stand-is =
          chosen _ _ has
          ∙ (λ i. ((ap (is_name name_limit) name-is ∙ name-told name_limit written) i && not (has_equals (default-told p end e h i))) && not (named_among (name_of x) xs))

      pub stand-unnamed : is_name name_limit written ≡ false → may_stand k x xs ≡ false
      stand-unnamed f = stand-is ∙ ap (λ (b : Bool). (b && not (has_equals (lexed true (drop (end + 1) p)))) && not (named_among (name_of x) xs)) f

      module _ (n : is_name name_limit written ≡ true) where
        pub stand-equals : has_equals (lexed true (drop (end + 1) p)) ≡ true → may_stand k x xs ≡ false
        stand-equals f = stand-is ∙ (λ i. (n i && not (f i)) && not (named_among (name_of x) xs))

        is-written : name_of x ≡ written
        is-written = name-is ∙ read_name written (name-lettered name_limit (map byte_of (lexed true written)) (name-told name_limit written ∙ n))

        pub stand-single : has_equals (lexed true (drop (end + 1) p)) ≡ false → may_stand k x xs ≡ not (named_among written xs)
        stand-single f = stand-is ∙ (λ i. (n i && not (f i)) && not (named_among (is-written i) xs))

-- a keyword and its value, as code cuts them
pub keyword-told : (p : Bytes) (end : ℕ) → end ≡ 0 + bare_at equals p → (behind : ℕ) → behind ≡ min (end + 1) (length p)
    → (take end p, take (length p - behind) (drop behind p)) ≡ keyword_in p
unfolding keyword_in
keyword-told p end e behind b =
    let at : end ≡ bare_at equals p = omega (arith, e) in
    let value : drop behind p ≡ drop (suc (bare_at equals p)) p =
    by (leb (end + 1) (length p))
    (λ t. let n : behind ≡ suc (bare_at equals p) = omega (arith, b, at, leb-true (end + 1) (length p) t) in ap (λ (n : ℕ). drop n p) n)
    (λ t. let past = leb-false (end + 1) (length p) t in
    drop_of_length-le p {i = behind} (omega (arith, b, past)) ∙ sym (drop_of_length-le p {i = suc (bare_at equals p)} (omega (arith, at, past)))) in
    λ i. (take (at i) p, (take_rest p behind ∙ value) i)

-- ---- all parts

-- a keyword and its value, by lexemes and by bytes
pair_is : (p : Bytes) → has_equals (lexed true p) ≡ true → is_keyword (lexed true p) ≡ true → (name_of (lexed true p) ≡ (keyword_in p).0) × (unlexed (value_of (lexed true p)) ≡ (keyword_in p).1)
unfolding keyword_in name_of value_of is_keyword before_equals
pair_is p h k =
    let e = bare_at equals p in
    let n = ap (map (byte_of {R = Bytes})) (before-is p) in (
      n ∙ read_name (take e p) (name-lettered name_limit _ (ap (is_name name_limit) (sym n) ∙ and_left (is_name name_limit (name_of (lexed true p))) _ k)),
      default-bytes p (ltb-true e (length p) (sym (has-equals-is p) ∙ h)),
    )

keywords-are : (ps : List Bytes) → are_operands true (map (lexed true) ps) ≡ true → map_keywords unlexed (map pair_of (map (lexed true) ps)) ≡ map keyword_in ps
unfolding map_keywords pair_of
keywords-are [] t = refl
keywords-are (p ∷ ps) t =
    by (has_equals (lexed true p))
    (λ h.
    let s = sym (step-keyword true (lexed true p) (map (lexed true) ps) h) ∙ t in
    let single = is_keyword (lexed true p) && not (named_among (name_of (lexed true p)) (map (lexed true) ps)) in
    let q = pair_is p h (and_left (is_keyword (lexed true p)) _ (and_left single _ s)) in
    (λ i. (q.0 i, q.1 i) ∷ keywords-are ps (and_right single _ s) i))
    (λ h. absurd (false≢true (sym (step-plain true (lexed true p) (map (lexed true) ps) h) ∙ t)))

behind-are : (ps : List Bytes) → are_operands false (map (lexed true) ps) ≡ true
    → map_keywords unlexed (map pair_of (drop (leading (map (lexed true) ps)) (map (lexed true) ps))) ≡ map keyword_in (drop (leading (map (lexed true) ps)) ps)
unfolding map_keywords leading run
behind-are [] t = refl
behind-are (p ∷ ps) t =
    by (has_equals (lexed true p))
    (λ h.
    let s = step-keyword true (lexed true p) (map (lexed true) ps) h ∙ (sym (step-keyword false (lexed true p) (map (lexed true) ps) h) ∙ t) in
    let n : leading (map (lexed true) (p ∷ ps)) ≡ 0 = passed_over _ _ (ap not h) in
    (λ i. map_keywords unlexed (map pair_of (drop (n i) (map (lexed true) (p ∷ ps)))))
    ∙ (keywords-are (p ∷ ps) s ∙ ap (λ (m : ℕ). map keyword_in (drop m (p ∷ ps))) (sym n)))
    (λ h.
    let s = sym (step-plain false (lexed true p) (map (lexed true) ps) h) ∙ t in
    let n : leading (map (lexed true) (p ∷ ps)) ≡ suc (leading (map (lexed true) ps)) = chosen _ _ (ap not h) in
    (λ i. map_keywords unlexed (map pair_of (drop (n i) (map (lexed true) (p ∷ ps)))))
    ∙ (behind-are ps s ∙ ap (λ (m : ℕ). map keyword_in (drop m (p ∷ ps))) (sym n)))

front-are : (n : ℕ) (ps : List Bytes) → map unlexed (take n (map (lexed true) ps)) ≡ take n ps
front-are zero ps = refl
front-are (suc n) [] = refl
front-are (suc n) (p ∷ ps) = λ i. lexed-back true p i ∷ front-are n ps i

-- ---- the call

module _ (s : Bytes) where
  pub not_plain : every is_plain (lexed true s) ≡ false → written_operands s ≡ none
  unfolding written_operands
  not_plain f = passed_over _ _ f

  module _ (p : every is_plain (lexed true s) ≡ true) where
    pub not-paired : pair_up outside (lexed true s) ≡ false → written_operands s ≡ none
    unfolding written_operands operands_of map_operands
    not-paired f = chosen _ _ p ∙ ap (map_operands unlexed) (passed_over _ _ f)

    module _ (q : pair_up outside (lexed true s) ≡ true) where
      written_is : written_operands s ≡ map_operands unlexed (gathered (divided (lexed true s)))
      unfolding written_operands operands_of
      written_is = chosen _ _ p ∙ ap (map_operands unlexed) (chosen _ _ q)

      pub not-operands : are_operands false (divided (lexed true s)) ≡ false → written_operands s ≡ none
      unfolding map_operands
      not-operands f = written_is ∙ ap (map_operands unlexed) (gathered-is (divided (lexed true s)) ∙ passed_over _ _ f)

      pub are-told : are_operands false (divided (lexed true s)) ≡ true → operands_in s (Some (leading (divided (lexed true s)))) ≡ written_operands s
      unfolding map_operands split_at operands_in
      are-told t =
          let d = divided-cut s in
          let a : are_operands false (map (lexed true) (parts_of s)) ≡ true = ap (are_operands false) (sym d) ∙ t in
          sym
          (written_is
          ∙ (ap (map_operands unlexed) (gathered-is (divided (lexed true s)) ∙ (chosen _ _ t ∙ ap (λ (xs : List Lexes). some (split_at (leading xs) xs)) d))
          ∙ ((λ i. some (record {
            positionals = front-are (leading (map (lexed true) (parts_of s))) (parts_of s) i;
            keywords = behind-are (parts_of s) a i;
          }))
          ∙ ap (λ (n : ℕ). operands_in s (Some n)) (ap leading (sym d)))))
