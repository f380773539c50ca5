-- The definitions, opened for computing: what a line does in a small macro, and what expanding gives. Statements that are computed name only these two.
use Prim.Native.Nat.{ℕ}
use mathlib.Core.Bool.{false}
use mathlib.Core.List.{[], ◌∷◌}
use lib.IntN.{ℤ}
use Rattle.text.specs.Bytes.{Bytes, bytes}
use Rattle.text.specs.Characters as Characters
use Rattle.text.specs.Words as Words
use Rattle.rules.specs.ByLines as ByLines
use Rattle.rules.specs.Calls as Calls
use Rattle.rules.specs.Choice as Choice
use Rattle.rules.specs.Decide as Decide
use Rattle.rules.specs.Evaluate as Evaluate
use Rattle.rules.specs.Faults as Faults
use Rattle.rules.specs.Fields as Fields
use Rattle.rules.specs.Form as Form
use Rattle.rules.specs.Grammar as Grammar
use Rattle.rules.specs.Lexemes as Lexemes
use Rattle.rules.specs.Library as Library
use Rattle.rules.specs.Machine as Machine
use Rattle.rules.specs.Meaning as Meaning
use Rattle.rules.specs.Statement as Statement
use Rattle.rules.specs.Values as Values
use Rattle.rules.specs.Statement.{set_a, set_b, set_c, map_line, read}
use Rattle.rules.specs.Evaluate.{Value, number, truth, string}
use Rattle.rules.specs.Decide.{Act, decide}
use Rattle.rules.specs.Machine.{Level, Answer, Outcome}
use Rattle.rules.specs.Library.{Names}
use Rattle.rules.specs.ByLines.{cell_named, by_lines}
use Rattle.rules.specs.Faults.{Verdict, verdict}

-- a macro with the parameter &A and a local of each kind: &N, &B, &C
abbrev pub small : Names
small = record {
  name = [];
  positionals = bytes "A" ∷ [];
  keywords = [];
  locals = (bytes "N", set_a) ∷ (bytes "B", set_b) ∷ (bytes "C", set_c) ∷ [];
  globals = [];
}

-- its level, where &A and &N have these values
abbrev pub level : Bytes → ℤ → Level
level a n = record {
  macro = 0;
  line = 0;
  counter = 0;
  number = 1;
  sect = [];
  list = [] ∷ a ∷ [];
  own = string a ∷ number n ∷ truth false ∷ string [] ∷ [];
}

-- what the line with these bytes does there, by the definitions that the meaning of lines uses
unfoldable pub does : Bytes → Bytes → ℤ → Act
unfolding Characters.characters Characters.in_set Characters.letters Characters.letter Characters.digits Characters.digit Characters.letter_or_digit Words.words Words.word_number ByLines.own_names ByLines.own_kinds ByLines.system_named ByLines.cell_named ByLines.header_of ByLines.reading ByLines.no_reading ByLines.line_in ByLines.machine_of ByLines.machine_of_lines ByLines.by_lines Calls.pair_up Calls.parts Calls.divided Calls.equals_at Calls.has_equals Calls.keyword_of Calls.operand_of Calls.is_among Calls.add_operand Calls.add_keyword Calls.gathered Calls.operands_of Calls.map_keywords Calls.map_operands Calls.put_at Calls.laid_out Calls.trimmed Choice.choose Choice.passed Choice.run Choice.every Choice.any Choice.count Choice.on_first Choice.while Decide.when_got Decide.renewed Decide.unless Decide.value_of Decide.assigned Decide.replaced Decide.operand_value Decide.modelled Decide.decide_by Decide.decide Evaluate.own_cell Evaluate.shared_cell Evaluate.system_cell Evaluate.number_of Evaluate.truth_of Evaluate.shown Evaluate.and_then Evaluate.of_parameter Evaluate.of_list Evaluate.text_of Evaluate.as_number Evaluate.count_bytes Evaluate.count_entries Evaluate.chars Evaluate.chars_if Evaluate.joined_chars Evaluate.measured_chars Evaluate.substring_chars Evaluate.type_chars Evaluate.certain Evaluate.values Faults.no_lines Faults.at_statement Faults.ends_declarations Faults.is_misplaced Faults.is_out_of_place Faults.has_long_symbol Faults.is_long_sequence Faults.declares_wrongly Faults.is_macro_name Faults.before_equals Faults.has_bad_prototype_name Faults.system_kind Faults.set_names Faults.kind_named Faults.is_unknown_kind Faults.has_unknown Faults.is_declared Faults.has_other_kind Faults.is_named_up_to_mend Faults.is_bad_target Faults.target_behind Faults.has_bad_body_name Faults.is_used_twice Faults.has_bad_name Faults.is_default Faults.is_good_part Faults.are_good_parts Faults.is_good_prototype Faults.is_named_or_empty Faults.is_model_name Faults.is_declaration Faults.are_fields_good Faults.kinds_of Faults.is_ill_formed Faults.is_past Faults.is_over_limit Faults.fault_of Faults.place_after Faults.titles_after Faults.globals_after Faults.macros_after Faults.around_after Faults.at_end Faults.verdict_from Faults.verdict Fields.lines_of Fields.is_ill_written Fields.starts_with Fields.is_copied_remark Fields.is_dropped_remark Fields.is_remark Fields.is_space Fields.is_no_space Fields.ends_operand Fields.operand_end Fields.holds_spaces Fields.fields_of Fields.no_fields Fields.statement_fields Fields.is_empty Form.form Form.is_got Form.same_set Form.is_symbol_of Form.is_named_by Form.is_operand_of Form.is_formed_by Form.is_formed Form.any_nesting Grammar.in_text Grammar.as_term Grammar.after_k Grammar.after_n Grammar.after_t Grammar.plain Grammar.rest Grammar.starts_mark Grammar.is_attribute Grammar.past_spaces Grammar.word_at Grammar.is_word Grammar.relation_at Grammar.then Grammar.broken Grammar.given Grammar.closed Grammar.whole Grammar.goes_on Grammar.turn Grammar.chain Grammar.subscripts Grammar.reference Grammar.referred Grammar.decimal_number Grammar.term Grammar.product Grammar.sum Grammar.piece Grammar.add_piece Grammar.goes_on_text Grammar.text Grammar.is_doubled Grammar.add_quoted Grammar.goes_on_quoted Grammar.quoted_text Grammar.substringed Grammar.string Grammar.characters Grammar.deeper Grammar.arithmetic Grammar.text_within Grammar.string_within Grammar.compared_strings Grammar.is_digit_alone Grammar.constant_at Grammar.compared_numbers Grammar.is_flag Grammar.element Grammar.spaced Grammar.negation Grammar.conjunction Grammar.disjunction Grammar.deeper_condition Grammar.condition Lexemes.byte_of Lexemes.field_start Lexemes.follows Lexemes.is_mark Lexemes.after Lexemes.marked Lexemes.symbols Lexemes.lexed Lexemes.unlexed Lexemes.refs_in Lexemes.is_plain Lexemes.is_long Lexemes.is_name Lexemes.sequence_start Lexemes.is_sequence Lexemes.outside Lexemes.enters Lexemes.is_bare Library.operation_of Library.is_macro Library.is_mend Library.macros_from Library.start_symbol Library.is_one_symbol Library.start_symbols Library.positional_names Library.with_default Library.keyword_names Library.of_kind Library.operand_parts Library.locals_by Library.globals_by Library.locals_on Library.globals_on Library.declared_in Library.names_in Library.firsts Library.seconds Library.parameter_names Library.with_globals Library.globals_of Library.is_named Library.line_named Machine.start_of Machine.positional_values Machine.keyword_value Machine.keyword_values Machine.own_values Machine.knows_keywords Machine.body_line Machine.refused_at Machine.refuses Machine.with_levels Machine.is_section Machine.sect_after Machine.put_out Machine.puts Machine.entered Machine.enters Machine.calls Machine.is_title Machine.is_language_word Machine.call_name Machine.written_operands Machine.uses Machine.states Machine.advanced Machine.jumped Machine.renewed_to Machine.keeping Machine.with_shared Machine.acts Machine.reaching Machine.stepped Machine.opened Machine.output_of Machine.open_move Machine.act_at Machine.move Machine.runs Machine.begun Machine.longest_in Machine.enough Machine.expands Machine.at_once Machine.expansion Machine.output_after Machine.workspace_after Machine.outcome Meaning.meaning Statement.statements Statement.statement_of Statement.map_lex Statement.map_does Statement.map_line Statement.pairs_first Statement.starts_open Statement.condition_end Statement.target_in Statement.is_copied Statement.doing Statement.model_of Statement.says Statement.read Values.within Values.operate Values.decimal Values.magnitude Values.shown_number Values.shown_truth Values.four_digits Values.spelt Values.number_in Values.type_of Values.substring Values.byte_order Values.first_differing Values.string_order Values.number_order Values.holds Values.divided_in Values.entries_of Values.number_of_entries Values.entry Values.listed
does line a n = decide (map_line (cell_named small [] (level a n) []) (λ t. 0) (read line))

-- what expanding a program by a library's own lines answers, in an output of `room` bytes
unfoldable pub answers : Bytes → Bytes → ℕ → Answer
unfolding Characters.characters Characters.in_set Characters.letters Characters.letter Characters.digits Characters.digit Characters.letter_or_digit Words.words Words.word_number ByLines.own_names ByLines.own_kinds ByLines.system_named ByLines.cell_named ByLines.header_of ByLines.reading ByLines.no_reading ByLines.line_in ByLines.machine_of ByLines.machine_of_lines ByLines.by_lines Calls.pair_up Calls.parts Calls.divided Calls.equals_at Calls.has_equals Calls.keyword_of Calls.operand_of Calls.is_among Calls.add_operand Calls.add_keyword Calls.gathered Calls.operands_of Calls.map_keywords Calls.map_operands Calls.put_at Calls.laid_out Calls.trimmed Choice.choose Choice.passed Choice.run Choice.every Choice.any Choice.count Choice.on_first Choice.while Decide.when_got Decide.renewed Decide.unless Decide.value_of Decide.assigned Decide.replaced Decide.operand_value Decide.modelled Decide.decide_by Decide.decide Evaluate.own_cell Evaluate.shared_cell Evaluate.system_cell Evaluate.number_of Evaluate.truth_of Evaluate.shown Evaluate.and_then Evaluate.of_parameter Evaluate.of_list Evaluate.text_of Evaluate.as_number Evaluate.count_bytes Evaluate.count_entries Evaluate.chars Evaluate.chars_if Evaluate.joined_chars Evaluate.measured_chars Evaluate.substring_chars Evaluate.type_chars Evaluate.certain Evaluate.values Faults.no_lines Faults.at_statement Faults.ends_declarations Faults.is_misplaced Faults.is_out_of_place Faults.has_long_symbol Faults.is_long_sequence Faults.declares_wrongly Faults.is_macro_name Faults.before_equals Faults.has_bad_prototype_name Faults.system_kind Faults.set_names Faults.kind_named Faults.is_unknown_kind Faults.has_unknown Faults.is_declared Faults.has_other_kind Faults.is_named_up_to_mend Faults.is_bad_target Faults.target_behind Faults.has_bad_body_name Faults.is_used_twice Faults.has_bad_name Faults.is_default Faults.is_good_part Faults.are_good_parts Faults.is_good_prototype Faults.is_named_or_empty Faults.is_model_name Faults.is_declaration Faults.are_fields_good Faults.kinds_of Faults.is_ill_formed Faults.is_past Faults.is_over_limit Faults.fault_of Faults.place_after Faults.titles_after Faults.globals_after Faults.macros_after Faults.around_after Faults.at_end Faults.verdict_from Faults.verdict Fields.lines_of Fields.is_ill_written Fields.starts_with Fields.is_copied_remark Fields.is_dropped_remark Fields.is_remark Fields.is_space Fields.is_no_space Fields.ends_operand Fields.operand_end Fields.holds_spaces Fields.fields_of Fields.no_fields Fields.statement_fields Fields.is_empty Form.form Form.is_got Form.same_set Form.is_symbol_of Form.is_named_by Form.is_operand_of Form.is_formed_by Form.is_formed Form.any_nesting Grammar.in_text Grammar.as_term Grammar.after_k Grammar.after_n Grammar.after_t Grammar.plain Grammar.rest Grammar.starts_mark Grammar.is_attribute Grammar.past_spaces Grammar.word_at Grammar.is_word Grammar.relation_at Grammar.then Grammar.broken Grammar.given Grammar.closed Grammar.whole Grammar.goes_on Grammar.turn Grammar.chain Grammar.subscripts Grammar.reference Grammar.referred Grammar.decimal_number Grammar.term Grammar.product Grammar.sum Grammar.piece Grammar.add_piece Grammar.goes_on_text Grammar.text Grammar.is_doubled Grammar.add_quoted Grammar.goes_on_quoted Grammar.quoted_text Grammar.substringed Grammar.string Grammar.characters Grammar.deeper Grammar.arithmetic Grammar.text_within Grammar.string_within Grammar.compared_strings Grammar.is_digit_alone Grammar.constant_at Grammar.compared_numbers Grammar.is_flag Grammar.element Grammar.spaced Grammar.negation Grammar.conjunction Grammar.disjunction Grammar.deeper_condition Grammar.condition Lexemes.byte_of Lexemes.field_start Lexemes.follows Lexemes.is_mark Lexemes.after Lexemes.marked Lexemes.symbols Lexemes.lexed Lexemes.unlexed Lexemes.refs_in Lexemes.is_plain Lexemes.is_long Lexemes.is_name Lexemes.sequence_start Lexemes.is_sequence Lexemes.outside Lexemes.enters Lexemes.is_bare Library.operation_of Library.is_macro Library.is_mend Library.macros_from Library.start_symbol Library.is_one_symbol Library.start_symbols Library.positional_names Library.with_default Library.keyword_names Library.of_kind Library.operand_parts Library.locals_by Library.globals_by Library.locals_on Library.globals_on Library.declared_in Library.names_in Library.firsts Library.seconds Library.parameter_names Library.with_globals Library.globals_of Library.is_named Library.line_named Machine.start_of Machine.positional_values Machine.keyword_value Machine.keyword_values Machine.own_values Machine.knows_keywords Machine.body_line Machine.refused_at Machine.refuses Machine.with_levels Machine.is_section Machine.sect_after Machine.put_out Machine.puts Machine.entered Machine.enters Machine.calls Machine.is_title Machine.is_language_word Machine.call_name Machine.written_operands Machine.uses Machine.states Machine.advanced Machine.jumped Machine.renewed_to Machine.keeping Machine.with_shared Machine.acts Machine.reaching Machine.stepped Machine.opened Machine.output_of Machine.open_move Machine.act_at Machine.move Machine.runs Machine.begun Machine.longest_in Machine.enough Machine.expands Machine.at_once Machine.expansion Machine.output_after Machine.workspace_after Machine.outcome Meaning.meaning Statement.statements Statement.statement_of Statement.map_lex Statement.map_does Statement.map_line Statement.pairs_first Statement.starts_open Statement.condition_end Statement.target_in Statement.is_copied Statement.doing Statement.model_of Statement.says Statement.read Values.within Values.operate Values.decimal Values.magnitude Values.shown_number Values.shown_truth Values.four_digits Values.spelt Values.number_in Values.type_of Values.substring Values.byte_order Values.first_differing Values.string_order Values.number_order Values.holds Values.divided_in Values.entries_of Values.number_of_entries Values.entry Values.listed
answers library program room = Machine.expansion (ByLines.machine_of_lines library) program room 32768

-- what translation says of a library
unfoldable pub judged : Bytes → Verdict
unfolding Characters.characters Characters.in_set Characters.letters Characters.letter Characters.digits Characters.digit Characters.letter_or_digit Words.words Words.word_number ByLines.own_names ByLines.own_kinds ByLines.system_named ByLines.cell_named ByLines.header_of ByLines.reading ByLines.no_reading ByLines.line_in ByLines.machine_of ByLines.machine_of_lines ByLines.by_lines Calls.pair_up Calls.parts Calls.divided Calls.equals_at Calls.has_equals Calls.keyword_of Calls.operand_of Calls.is_among Calls.add_operand Calls.add_keyword Calls.gathered Calls.operands_of Calls.map_keywords Calls.map_operands Calls.put_at Calls.laid_out Calls.trimmed Choice.choose Choice.passed Choice.run Choice.every Choice.any Choice.count Choice.on_first Choice.while Decide.when_got Decide.renewed Decide.unless Decide.value_of Decide.assigned Decide.replaced Decide.operand_value Decide.modelled Decide.decide_by Decide.decide Evaluate.own_cell Evaluate.shared_cell Evaluate.system_cell Evaluate.number_of Evaluate.truth_of Evaluate.shown Evaluate.and_then Evaluate.of_parameter Evaluate.of_list Evaluate.text_of Evaluate.as_number Evaluate.count_bytes Evaluate.count_entries Evaluate.chars Evaluate.chars_if Evaluate.joined_chars Evaluate.measured_chars Evaluate.substring_chars Evaluate.type_chars Evaluate.certain Evaluate.values Faults.no_lines Faults.at_statement Faults.ends_declarations Faults.is_misplaced Faults.is_out_of_place Faults.has_long_symbol Faults.is_long_sequence Faults.declares_wrongly Faults.is_macro_name Faults.before_equals Faults.has_bad_prototype_name Faults.system_kind Faults.set_names Faults.kind_named Faults.is_unknown_kind Faults.has_unknown Faults.is_declared Faults.has_other_kind Faults.is_named_up_to_mend Faults.is_bad_target Faults.target_behind Faults.has_bad_body_name Faults.is_used_twice Faults.has_bad_name Faults.is_default Faults.is_good_part Faults.are_good_parts Faults.is_good_prototype Faults.is_named_or_empty Faults.is_model_name Faults.is_declaration Faults.are_fields_good Faults.kinds_of Faults.is_ill_formed Faults.is_past Faults.is_over_limit Faults.fault_of Faults.place_after Faults.titles_after Faults.globals_after Faults.macros_after Faults.around_after Faults.at_end Faults.verdict_from Faults.verdict Fields.lines_of Fields.is_ill_written Fields.starts_with Fields.is_copied_remark Fields.is_dropped_remark Fields.is_remark Fields.is_space Fields.is_no_space Fields.ends_operand Fields.operand_end Fields.holds_spaces Fields.fields_of Fields.no_fields Fields.statement_fields Fields.is_empty Form.form Form.is_got Form.same_set Form.is_symbol_of Form.is_named_by Form.is_operand_of Form.is_formed_by Form.is_formed Form.any_nesting Grammar.in_text Grammar.as_term Grammar.after_k Grammar.after_n Grammar.after_t Grammar.plain Grammar.rest Grammar.starts_mark Grammar.is_attribute Grammar.past_spaces Grammar.word_at Grammar.is_word Grammar.relation_at Grammar.then Grammar.broken Grammar.given Grammar.closed Grammar.whole Grammar.goes_on Grammar.turn Grammar.chain Grammar.subscripts Grammar.reference Grammar.referred Grammar.decimal_number Grammar.term Grammar.product Grammar.sum Grammar.piece Grammar.add_piece Grammar.goes_on_text Grammar.text Grammar.is_doubled Grammar.add_quoted Grammar.goes_on_quoted Grammar.quoted_text Grammar.substringed Grammar.string Grammar.characters Grammar.deeper Grammar.arithmetic Grammar.text_within Grammar.string_within Grammar.compared_strings Grammar.is_digit_alone Grammar.constant_at Grammar.compared_numbers Grammar.is_flag Grammar.element Grammar.spaced Grammar.negation Grammar.conjunction Grammar.disjunction Grammar.deeper_condition Grammar.condition Lexemes.byte_of Lexemes.field_start Lexemes.follows Lexemes.is_mark Lexemes.after Lexemes.marked Lexemes.symbols Lexemes.lexed Lexemes.unlexed Lexemes.refs_in Lexemes.is_plain Lexemes.is_long Lexemes.is_name Lexemes.sequence_start Lexemes.is_sequence Lexemes.outside Lexemes.enters Lexemes.is_bare Library.operation_of Library.is_macro Library.is_mend Library.macros_from Library.start_symbol Library.is_one_symbol Library.start_symbols Library.positional_names Library.with_default Library.keyword_names Library.of_kind Library.operand_parts Library.locals_by Library.globals_by Library.locals_on Library.globals_on Library.declared_in Library.names_in Library.firsts Library.seconds Library.parameter_names Library.with_globals Library.globals_of Library.is_named Library.line_named Machine.start_of Machine.positional_values Machine.keyword_value Machine.keyword_values Machine.own_values Machine.knows_keywords Machine.body_line Machine.refused_at Machine.refuses Machine.with_levels Machine.is_section Machine.sect_after Machine.put_out Machine.puts Machine.entered Machine.enters Machine.calls Machine.is_title Machine.is_language_word Machine.call_name Machine.written_operands Machine.uses Machine.states Machine.advanced Machine.jumped Machine.renewed_to Machine.keeping Machine.with_shared Machine.acts Machine.reaching Machine.stepped Machine.opened Machine.output_of Machine.open_move Machine.act_at Machine.move Machine.runs Machine.begun Machine.longest_in Machine.enough Machine.expands Machine.at_once Machine.expansion Machine.output_after Machine.workspace_after Machine.outcome Meaning.meaning Statement.statements Statement.statement_of Statement.map_lex Statement.map_does Statement.map_line Statement.pairs_first Statement.starts_open Statement.condition_end Statement.target_in Statement.is_copied Statement.doing Statement.model_of Statement.says Statement.read Values.within Values.operate Values.decimal Values.magnitude Values.shown_number Values.shown_truth Values.four_digits Values.spelt Values.number_in Values.type_of Values.substring Values.byte_order Values.first_differing Values.string_order Values.number_order Values.holds Values.divided_in Values.entries_of Values.number_of_entries Values.entry Values.listed
judged library = verdict library
