-- Where a walk over a library's lines stands, with its tables: what the rules have of the lines before it. Assumes nothing.
use Rattle.std.specs.Prelude.{ℕ, ◌+◌, ◌-◌, ◌*◌, ◌≤◌, ◌<◌, ◌≡◌, true, List, ◌++◌, map, length, take, drop}
use Rattle.text.specs.Bytes.{Bytes}
use Rattle.rules.specs.Choice.{every, any}
use Rattle.rules.specs.Limits.{library_limit, macro_limit, parameter_limit, local_limit, global_limit}
use Rattle.rules.specs.Fields.{lines_of}
use Rattle.rules.specs.Statement.{Set}
use Rattle.rules.specs.Library.{Place, outer, at_prototype, in_body, names_in as names_of, firsts, parameter_names}
use Rattle.rules.specs.ByLines.{own_names}
use Rattle.rules.specs.Faults.{Around, ends_declarations, verdict_from, verdict}
use Rattle.deck.specs.Good.{are_distinct}
use Rattle.lines.specs.Ends.{line_end}
use Rattle.names.specs.Names.{titles_in, padded}
use Rattle.tables.specs.Titles.{fits_row}
use Rattle.symbols.specs.Held.{Held}
use Rattle.walking.specs.declared.Body.{Body as Kept}
use Rattle.walking.specs.declared.Place.TheVariants.{Outer, Prototype, Inner}
use Rattle.walking.specs.declared.Walk.{Walk as Stand}
use Rattle.walking.specs.Verdicts.{fault_number, globals_from, globals_at, Shared}

-- the macros' names stand in the first rows
pub record Titled (names : List Bytes) (rows : ℕ) (titles : Bytes) : Type 0 where
  pub listed : titles_in (take (rows * 8) titles) ≡ map padded names
  pub fitting : every fits_row names ≡ true
  pub counted : length names ≡ rows

-- bytes that end where a line ends: whatever follows them, its lines follow theirs
abbrev pub Whole : Bytes → Type 0
Whole s = (t : Bytes) → lines_of (s ++ t) ≡ lines_of s ++ lines_of t

-- from one place up to another
abbrev pub part : Bytes → ℕ → ℕ → Bytes
part s from to = take (to - from) (drop from s)

-- in the body of a macro with prototype `p`, behind the lines `before`, of which the walk has `here`
pub record Inside (library : Bytes) (w : Stand) (here : Kept) (own global shared kinds : Bytes) (globals : List (Bytes × Set)) (p : Bytes) (before : List Bytes) : Type 0 where
  pub is_body : w.place ≡ Inner here
  pub few-titles : w.titles ≤ w.macros
  pub starts : here.start ≤ w.at
  pub before-are : lines_of (part library here.start w.at) ≡ before
  pub ends-line : w.at < length library → Whole (part library here.start w.at)
  pub has_ended : here.ended ≡ any ends_declarations before
  pub held : Held (names_of p before) globals (take (w.rows.own * 8) own) (take (w.rows.global * 8) global) (take (w.rows.shared * 8) shared) kinds
  pub mine : length (own_names (names_of p before)) ≡ w.rows.own
  pub theirs : length (names_of p before).globals ≡ w.rows.global
  pub parameters-are : length (parameter_names (names_of p before)) ≡ here.parameters
  pub few-parameters : here.parameters ≤ parameter_limit
  pub few-locals : length (names_of p before).locals ≤ local_limit
  pub once : are_distinct (firsts (names_of p before).globals) ≡ true

abbrev pub Placed : Bytes → Stand → Bytes → Bytes → Bytes → Bytes → List (Bytes × Set) → Place → Type 0
Placed library w own global shared kinds globals outer = (w.place ≡ Outer) × (w.titles ≤ w.macros)
Placed library w own global shared kinds globals at_prototype = (w.place ≡ Prototype) × (w.titles < w.macros)
Placed library w own global shared kinds globals (in_body p before) = (here : Kept) × Inside library w here own global shared kinds globals p before

-- the walk and its tables say what `a` says
pub record Follows (library : Bytes) (w : Stand) (titles own global shared kinds : Bytes) (a : Around) : Type 0 where
  pub inside : w.at ≤ length library
  pub lines_are : a.lines ≡ w.lines
  pub macros-are : a.macros ≡ w.macros
  pub few-lines : w.lines ≤ library_limit
  pub few-macros : w.macros ≤ macro_limit
  pub titled : Titled a.titles w.titles titles
  pub globals-in : Shared a.globals w.rows.shared shared kinds
  pub few-globals : w.rows.shared ≤ global_limit
  pub placed : Placed library w own global shared kinds a.globals a.place

-- so many bytes the tables have
pub record Sizes (titles own global shared kinds : Bytes) : Type 0 where
  pub titles-size : 264 ≤ length titles
  pub own-size : 1024 ≤ length own
  pub global-size : 1024 ≤ length global
  pub shared-size : 1024 ≤ length shared
  pub kinds-size : 192 ≤ length kinds

-- the walk stands where the rules stand on their way to the library's verdict
pub record Walked (library : Bytes) (w : Stand) (titles own global shared kinds : Bytes) : Type 0 where
  pub around : Around
  pub follows : Follows library w titles own global shared kinds around
  pub sizes : Sizes titles own global shared kinds
  pub verdict-is : verdict_from around (lines_of (drop w.at library)) ≡ verdict library
  pub globals-are : globals_from around (lines_of (drop w.at library)) ≡ globals_at library

-- at a line that ends at `end`
pub record AtLine (library : Bytes) (w : Stand) (end : ℕ) (titles own global shared kinds : Bytes) : Type 0 where
  pub walked : Walked library w titles own global shared kinds
  pub in-file : w.at < length library
  pub end_is : end ≡ line_end library w.at

-- and that line has no fault
pub record Ready (library : Bytes) (w : Stand) (end : ℕ) (titles own global shared kinds : Bytes) : Type 0 where
  pub walked : Walked library w titles own global shared kinds
  pub in-file : w.at < length library
  pub end_is : end ≡ line_end library w.at
  pub no-fault : fault_number walked.around (take (end - w.at) (drop w.at library)) (lines_of (drop (end + 1) library)) ≡ 0
