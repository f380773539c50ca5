-- The test of good form as one pass over a deck's bytes: each thing is read once and tested where it stands, and the pass ends at the first that fails.
use Rattle.std.specs.Prelude.{ℕ, zero, suc, ◌+◌, Bool, true, false, ◌&&◌, ◌||◌, not, List, [], ◌∷◌, ◌++◌, eqb, leb, ltb, length, drop, Option as Stop, Some, None}
use Rattle.std.proofs.Math.Option.{Option, none, some}
use Rattle.text.specs.Bytes.{Bytes, same}
use Rattle.rules.specs.Choice.{choose, any}
use Rattle.rules.specs.Limits.{library_limit, macro_limit, parameter_limit, local_limit, global_limit, nest_limit}
use Rattle.rules.specs.Statement.{Set, Line, map_line}
use Rattle.rules.specs.Form.{is_formed}
use Rattle.rules.specs.Faults.{is_macro_name}
use Rattle.deck.specs.Slots.{Slot, DeckMacro, Deck, parameters, slot_kind}
use Rattle.deck.specs.Coding.{Read, after, get_byte, two, four, pair, list_of}
use Rattle.deck.specs.Coders.{string, kind, flag, line, version_byte}
use Rattle.deck.specs.AsRead.{is_read_line, is_read_default}
use Rattle.good_decks.specs.declared.Seen.{Seen}
use Rattle.deck.specs.Good.{is_keyword, are_lexemes, is_in_order, does_end, does_count, may_precede}

-- ---- what a pass is put together from

-- what is read if a test of what stands before it holds
unfoldable pub need : {A : Type 0} → Bool → Option A → Option A
need b r = choose b r none

-- what is read if it passes a test
unfoldable pub sift : {A : Type 0} → (A → Bool) → Read A → Read A
sift test none = none
sift test (some r) = choose (test r.0) (some r) none

-- so many things one after another; what the next is tested by depends on those before it
module _ {A S : Type 0} (get : S → Bytes → Read A) (next : S → A → S) where
  unfoldable pub walk : ℕ → S → Bytes → Read (List A)
  walk zero st s = some ([], s)
  walk (suc n) st s = after (get st s) λ a t. after (walk n (next st a) t) λ l u. some (a ∷ l, u)

-- the same of things that are there already
module _ {A S : Type 0} (test : S → A → Bool) (next : S → A → S) where
  unfoldable pub hold_from : S → List A → Bool
  hold_from st [] = true
  hold_from st (a ∷ l) = test st a && hold_from (next st a) l

-- ---- lines

-- what the pass has seen of a body (struct `Seen`), line after line
unfoldable pub unseen : Seen
unseen = record { lines = 0; actr = 0; clear = true }

unfoldable pub seen_after : Seen → Line Slot ℕ → Seen
seen_after p l = record {
  lines = suc p.lines;
  actr = choose (does_count l.does) (suc p.lines) p.actr;
  clear = p.clear && may_precede l.does;
}

-- `Good.is_line` with the macro's head and the count of its lines, which stand before them
unfoldable pub is_line_of : List Set → DeckMacro → ℕ → ℕ → Line Slot ℕ → Bool
is_line_of globals h count actr l =
    is_in_order actr count l.does
    && (are_lexemes l.name && (are_lexemes l.operation && (are_lexemes l.operand && is_formed nest_limit (map_line (slot_kind globals h) (λ t. t) l))))

-- MEND is the last line and no other is
unfoldable pub ends_where : ℕ → Seen → Line Slot ℕ → Bool
ends_where count p l = choose (eqb (suc p.lines) count) (does_end l.does) (not (does_end l.does))

-- ACTR stands where it may
unfoldable pub counts_where : Seen → Line Slot ℕ → Bool
counts_where p l = not (does_count l.does) || p.clear

-- in its place, in order and well formed
unfoldable pub is_placed_here : List Set → DeckMacro → ℕ → Seen → Line Slot ℕ → Bool
is_placed_here globals h count p l = ends_where count p l && (counts_where p l && is_line_of globals h count p.actr l)

unfoldable pub is_line_here : List Set → DeckMacro → ℕ → Seen → Line Slot ℕ → Bool
is_line_here globals h count p l =
    ends_where count p l && ((counts_where p l && is_line_of globals h count p.actr l) && is_read_line l)

unfoldable pub good_line : List Set → DeckMacro → ℕ → Seen → Bytes → Read (Line Slot ℕ)
good_line globals h count p s = sift (is_line_here globals h count p) (line.get s)

unfoldable pub good_lines : List Set → DeckMacro → ℕ → Bytes → Read (List (Line Slot ℕ))
good_lines globals h count s = walk (good_line globals h count) seen_after count unseen s

-- so many lines, each in its place: what the code's loop walks
unfoldable pub placed_lines : List Set → DeckMacro → ℕ → ℕ → Seen → Bytes → Read (List (Line Slot ℕ))
placed_lines globals h count n p s = walk (λ p s. sift (is_placed_here globals h count p) (line.get s)) seen_after n p s

-- what is left behind a reading, and what an answer with a place says of it
unfoldable pub rest_of : {A : Type 0} → Read A → Option Bytes
rest_of none = none
rest_of (some r) = some r.1

unfoldable pub stops : Bytes → Stop ℕ → Option Bytes
stops s (Some n) = some (drop n s)
stops s None = none

-- ---- keywords

-- no name of those before is the same
unfoldable pub is_new : List Bytes → Bytes → Bool
is_new names n = not (any (λ o. same o n) names)

unfoldable pub is_keyword_here : List Bytes → (Bytes × Bytes) → Bool
is_keyword_here names k = is_keyword k && (is_read_default k.1 && is_new names k.0)

unfoldable pub keyword_after : List Bytes → (Bytes × Bytes) → List Bytes
keyword_after names k = names ++ k.0 ∷ []

unfoldable pub good_keyword : List Bytes → Bytes → Read (Bytes × Bytes)
good_keyword names s = sift (is_keyword_here names) ((pair string string).get s)

unfoldable pub good_keywords : Bytes → Read (List (Bytes × Bytes))
good_keywords s = after (two.get s) λ n t. walk good_keyword keyword_after n [] t

-- ---- macros

unfoldable pub head_of : Bytes → Bool → ℕ → List (Bytes × Bytes) → List Set → DeckMacro
head_of title named positionals keywords locals = record { title = title; named = named; positionals = positionals; keywords = keywords; locals = locals; lines = [] }

unfoldable pub with_lines : DeckMacro → List (Line Slot ℕ) → DeckMacro
with_lines h ls = record { title = h.title; named = h.named; positionals = h.positionals; keywords = h.keywords; locals = h.locals; lines = ls }

-- what the pass has seen of a deck: the macros' names, and how many lines they have
pub record Gone : Type 0 where
  pub titles : List Bytes
  pub total : ℕ

unfoldable pub not_gone : Gone
not_gone = record { titles = []; total = 0 }

unfoldable pub gone_after : Gone → DeckMacro → Gone
gone_after g m = record { titles = g.titles ++ m.title ∷ []; total = g.total + length m.lines }

-- a macro's lines behind its head
unfoldable pub good_body : List Set → ℕ → DeckMacro → Bytes → Read DeckMacro
good_body globals total h s =
    after (two.get s) λ count t.
    need (ltb 0 count && leb (total + count) library_limit) (after (good_lines globals h count t) λ ls u. some (with_lines h ls, u))

unfoldable pub good_macro : List Set → Gone → Bytes → Read DeckMacro
good_macro globals g s =
    after (string.get s) λ title t.
    need (is_macro_name title && is_new g.titles title)
    (after (flag.get t) λ named u.
    after (two.get u) λ positionals v.
    after (good_keywords v) λ keywords w.
    need (leb (parameters (head_of title named positionals keywords [])) parameter_limit)
    (after ((list_of kind).get w) λ locals x.
    need (leb (length locals) local_limit) (good_body globals g.total (head_of title named positionals keywords locals) x)))

-- ---- the deck

unfoldable pub is_nil : Bytes → Bool
is_nil [] = true
is_nil (b ∷ s) = false

-- the globals' kinds, then the macros, and nothing left over
unfoldable pub good_contents : Bytes → Read Deck
good_contents s =
    after ((list_of kind).get s) λ globals t.
    need (leb (length globals) global_limit)
    (after (two.get t) λ count u.
    need (leb count macro_limit)
    (after (walk (good_macro globals) gone_after count not_gone u) λ ms v. need (is_nil v) (some (record { globals = globals; macros = ms }, v))))

unfoldable pub the_deck : Read Deck → Option Deck
the_deck none = none
the_deck (some r) = some r.0

-- the deck that bytes in good form stand for, found in one pass
unfoldable pub good_from : Bytes → Option Deck
good_from s =
    the_deck (after (four.get s) λ count t. need (eqb (length t) count) (after (get_byte t) λ v u. need (eqb v version_byte) (good_contents u)))
