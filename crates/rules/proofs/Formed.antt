-- A line that the grammar's test accepts is never refused as ill-formed or as too deep when it is carried out, whatever its variable symbols hold: a refusal of it
-- is one of a value, or of a string over its limit.
use Prim.Native.Nat.{ℕ}
use mathlib.Core.Path.{◌≡◌, refl}
use mathlib.Core.Bool.{Bool, true, false, false≢true, and-eq-true_iff, ◌&&◌, ◌||◌}
use mathlib.Core.List.{List, [], ◌∷◌, map}
use lib.Dec.{eqb, leb}
use lib.ListN.{length}
use lib.IntN.{ℤ, pos, negsuc}
use Rattle.rules.specs.Choice.{choose}
use Rattle.rules.specs.Limits.{nest_limit, counter_limit, too_long, bad_value}
use Rattle.rules.specs.Lexemes.{Lex, byte, mark, ref, lone}
use Rattle.rules.specs.Statement.{Set, set_a, set_b, set_c, Line, Does, passes, ends, exits, text, models, sets, branches_if, branches, counts, map_lex, map_does, map_line}
use Rattle.rules.specs.Grammar.{Kind, Got, text_within}
use Rattle.rules.specs.Form.{Nothing, form, is_got, is_named_by, is_operand_of, is_formed_by, is_formed}
use Rattle.rules.specs.Evaluate.{Cell, Chars, Value, number, truth, string, values}
use Rattle.rules.specs.Decide.{Act, next, leave, jump, renew, keep, use', state, refuse, when_got, renewed, unless, value_of, assigned, replaced, modelled, decide_by, decide}
use Rattle.rules.proofs.InKind.{in-kind}
use Rattle.rules.proofs.Alike.{Alike, both, value, neither, Any, alike-whole}
use Rattle.rules.proofs.AlikeRules.{alike-arithmetic, alike-text-within, alike-string-within, alike-condition}

-- no refusal, or one that evaluation gives to a well-formed line
unfoldable pub is_fine : Act → Bool
is_fine next = true
is_fine leave = true
is_fine (jump t) = true
is_fine (renew n) = true
is_fine (keep st) = true
is_fine (use' s) = true
is_fine (state n o a c) = true
is_fine (refuse e left) = eqb e bad_value || eqb e too_long

-- a field's lexemes, as the test of form sees them
abbrev kind_of : Cell → Kind
kind_of c = c.kind

abbrev kinds : List (Lex Cell) → List (Lex Kind)
kinds x = map (map_lex kind_of) x

-- what is alike to something that was accepted is a value, or was refused by one
fine-when-got : {A : Type 0} {f : Got A Cell} {g : Got Nothing Kind} (k : A → Act) → Alike kind_of Any f g → is_got g ≡ true
    → ((v : A) → is_fine (k v) ≡ true) → is_fine (when_got f k) ≡ true
unfolding is_fine when_got is_got
fine-when-got k (both fit h) e fine = fine _
fine-when-got k value e fine = refl
fine-when-got k neither e fine = absurd (false≢true e)

fine-unless : (over : Bool) (left : ℕ) (act : Act) → is_fine act ≡ true → is_fine (unless over left act) ≡ true
unfolding is_fine unless choose
fine-unless true left act fine = refl
fine-unless false left act fine = fine

fine-renewed : (left : ℕ) (z : ℤ) → is_fine (renewed left z) ≡ true
unfolding is_fine renewed choose
fine-renewed left (pos n) = go (leb n counter_limit)
  where
    go : (b : Bool) → is_fine (choose b (renew n) (refuse bad_value left)) ≡ true
    go true = refl
    go false = refl
fine-renewed left (negsuc n) = refl

fine-choose : (b : Bool) (t : ℕ) → is_fine (choose b (jump t) next) ≡ true
unfolding is_fine choose
fine-choose true t = refl
fine-choose false t = refl

fine-value : (s : Set) (x : List (Lex Cell)) (k : Value → Act) → is_operand_of nest_limit s (kinds x) ≡ true → ((v : Value) → is_fine (k v) ≡ true)
    → is_fine (value_of s x k) ≡ true
unfolding is_operand_of value_of values
fine-value set_a x k e fine = fine-when-got _ (alike-whole (alike-arithmetic values nest_limit _ _ (in-kind kind_of x))) e λ n. fine (number n)
fine-value set_b x k e fine = fine-when-got _ (alike-whole (alike-condition values nest_limit _ _ (in-kind kind_of x))) e
    λ b. fine-unless b.over (length x) _ (fine (truth b.holds))
fine-value set_c x k e fine = fine-when-got _ (alike-whole (alike-string-within values nest_limit _ _ (in-kind kind_of x))) e
    λ s. fine-unless s.over (length x) _ (fine (string s.bytes))

-- a SET line is named by a symbol, so that there is somewhere to store
fine-assigned : (n : List (Lex Cell)) (s : Set) (x : List (Lex Cell)) → is_named_by s (kinds n) ≡ true → is_operand_of nest_limit s (kinds x) ≡ true
    → is_fine (assigned n s x) ≡ true
unfolding is_named_by map_lex assigned is_fine
fine-assigned [] s x named e = absurd (false≢true named)
fine-assigned (byte c ∷ n) s x named e = absurd (false≢true named)
fine-assigned (mark ∷ n) s x named e = absurd (false≢true named)
fine-assigned (ref r ∷ n) s x named e = fine-value s x _ e λ v. refl
fine-assigned (lone ∷ n) s x named e = absurd (false≢true named)

-- a field of a model statement is a text
abbrev is_text : List (Lex Cell) → Bool
is_text x = is_got (text_within form nest_limit (kinds x))

fine-field : (x : List (Lex Cell)) (k : Chars → Act) → is_text x ≡ true → ((s : Chars) → is_fine (k s) ≡ true) → is_fine (when_got (replaced x) k) ≡ true
unfolding replaced values
fine-field x k e fine = fine-when-got k (alike-text-within values nest_limit _ _ (in-kind kind_of x)) e fine

fine-modelled : (l : Line Cell ℕ) → (is_text l.name && (is_text l.operation && is_text l.operand)) ≡ true → is_fine (modelled l) ≡ true
unfolding modelled is_fine
fine-modelled l e =
    let p = (and-eq-true_iff (is_text l.name) (is_text l.operation && is_text l.operand)).0 e in
    let q = (and-eq-true_iff (is_text l.operation) (is_text l.operand)).0 p.1 in
    fine-field l.name _ p.0 λ n. fine-field l.operation _ q.0 λ o. fine-field l.operand _ q.1 λ a. refl

formed-decides-by : (l : Line Cell ℕ) (d : Does ℕ) → is_formed_by nest_limit (map_line kind_of (λ t. t) l) (map_does (λ t. t) d) ≡ true → is_fine (decide_by l d) ≡ true
unfolding is_formed_by map_line map_does decide_by is_fine values
formed-decides-by l passes e = refl
formed-decides-by l ends e = refl
formed-decides-by l exits e = refl
formed-decides-by l (text s) e = refl
formed-decides-by l models e = fine-modelled l e
formed-decides-by l (sets s) e =
    let p = (and-eq-true_iff (is_named_by s (kinds l.name)) (is_operand_of nest_limit s (kinds l.operand))).0 e in
    fine-assigned l.name s l.operand p.0 p.1
formed-decides-by l (branches_if t) e = fine-when-got _ (alike-whole (alike-condition values nest_limit _ _ (in-kind kind_of l.operand))) e
    λ b. fine-unless b.over (length l.operand) _ (fine-choose b.holds t)
formed-decides-by l (branches t) e = refl
formed-decides-by l counts e = fine-when-got _ (alike-whole (alike-arithmetic values nest_limit _ _ (in-kind kind_of l.operand))) e
    λ z. fine-renewed (length l.operand) z

pub formed-decides : (l : Line Cell ℕ) → is_formed nest_limit (map_line (λ c. c.kind) (λ t. t) l) ≡ true → is_fine (decide l) ≡ true
unfolding is_formed map_line decide
formed-decides l e = formed-decides-by l l.does e
