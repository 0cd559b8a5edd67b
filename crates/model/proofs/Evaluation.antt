-- Every definition that an example computes with, under one name: whoever unfolds `evaluation` unfolds them all.
-- Assumes nothing.
use Rattle.kinds.specs.Decimal.{digits, decimal, unsigned, plain, number}
use Rattle.kinds.specs.Kind.{elementary_text, suffix_text, kind_text, canonical, is_elementary}
use Rattle.model.specs.Text.{span_from, char_of, character, valid_length, blank, skip, peek, word_length, run_length}
use Rattle.model.specs.Tree.{arrays, kind_of, name_kinds}
use Rattle.model.specs.KindText.{cut_last, strip, inside, peel, with_number, from_str_in, from_str}
use Rattle.model.specs.Parser.{on_ans, then, look, take_char, word, word_end, keyword_of, look_ident, ident, keyword, option, optional_name, end}
use Rattle.model.specs.Reading.{run_kind, array_suffix, suffixes_in, suffixes, field_kind, marks, field_by, closing, rest, list, tuple_kind, fields, visibility, modifiers, returns, keyword_text, function, constructor, event, error, exec, wanted, read_declaration, admit, parse}
use Rattle.model.specs.Layout.{little_endian, le_value, record_of, piece_of}
use Rattle.model.specs.Record.{encode_elementary, encode_suffix, encode_suffixes, encode_name, encode_field, encode_list, encode, is_mark, is_field, is_declaration, well_formed, well_formed_field, decode_elementary, decode_suffix, base_from, each_in, decode_suffixes, field_from, tuple_from, decode_field, decode_fields, decode_declaration, decode, decode_lone}
use Rattle.model.specs.Line.{keyword_in, canonical_text, signature_text, field_text, name_of, field_name, line}
use Rattle.model.specs.Answer.{number as refusalNo, said, needed, outcome, after, refusal_number, handed}
use Rattle.model.specs.Calls.{written, read_output, crowded, is_bare, read_tuple, read_kind, kind_output, canonical_output, signature_output, kind_text_output, name_output}
use Rattle.model.specs.Message.{wording, whole_from, whole_to, context, escaped, message_text, message_output}
use Rattle.model.specs.Deposit.{deposit_by, deposit_line}
use Rattle.model.specs.Written.{suffixes_text, written_field}
use Rattle.model.specs.Full.{full_text, full_output}

unfoldable pub evaluation : Unit {0}
unfolding digits decimal unsigned plain number elementary_text suffix_text kind_text canonical is_elementary span_from char_of character valid_length blank skip peek word_length run_length arrays kind_of name_kinds cut_last strip inside peel with_number from_str_in from_str on_ans then look take_char word word_end keyword_of look_ident ident keyword option optional_name end run_kind array_suffix suffixes_in suffixes field_kind marks field_by closing rest list tuple_kind fields visibility modifiers returns keyword_text function constructor event error exec wanted read_declaration admit parse little_endian le_value record_of piece_of encode_elementary encode_suffix encode_suffixes encode_name encode_field encode_list encode is_mark is_field is_declaration well_formed well_formed_field decode_elementary decode_suffix base_from each_in decode_suffixes field_from tuple_from decode_field decode_fields decode_declaration decode decode_lone keyword_in canonical_text signature_text field_text name_of field_name line refusalNo said needed outcome after refusal_number handed written read_output crowded is_bare read_tuple read_kind kind_output canonical_output signature_output kind_text_output name_output wording whole_from whole_to context escaped message_text message_output deposit_by deposit_line suffixes_text written_field full_text full_output
evaluation = tt
