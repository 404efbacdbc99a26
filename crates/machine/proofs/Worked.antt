-- The card to try: the definitions compute the table of ../specs/Worked.antt. Exports `worked`.
use mathlib.Core.Path.{refl}
use Rattle.base.specs.Bytes.{same_bytes, splice, put_fits, put}
use Rattle.base.specs.Choice.{all_of}
use Rattle.store_records.specs.Body.{count, behind, place, firsts, records, nth, used, append_fits, ok_at, ok_to, body_ok, appendable, record_bytes, appended, append}
use Rattle.store_records.specs.Little.{le16, le32, bytes16}
use Rattle.store_kinds.specs.Rules.{rules, first_rule, rule_of, all_rules, is_biometrics, application_of, there, present_by, kind_ok}
use Rattle.store_image.specs.Image.{find_from, find, has, present, section_ok, sections_ok, well_formed, body, records_of, with_body, append_to}
use Rattle.store_files.specs.Files.{by_id, by_short, id_of}
use Rattle.store_files.specs.Master.{aid_prefix, agrees_to, aid_of}
use Rattle.objects_writer.specs.Number.{big, bytes_in, bytes_of, shortest}
use Rattle.objects_writer.specs.Writing.{length_bytes, tag_bytes, tlv}
use Rattle.objects_reader.specs.Form.{form_in, form_of, read_form, read_by}
use Rattle.objects_reader.specs.Head.{length_of, head_of}
use Rattle.objects_reader.specs.Places.{number_in}
use Rattle.objects_templates.specs.Reference.{read_reference}
use Rattle.objects_templates.specs.Search.{read_search}
use Rattle.machine_rights.specs.Chain.{certificate, joined_bytes, joined, cleared_bytes, cleared, no_rights, held, effective, same, is_cleared}
use Rattle.machine_rights.specs.Rights.{bit, flagged, record_bit, certificate_bit, may_records}
use Rattle.machine_apdu.specs.Shape.{be16_at, or_most, header_of, framed, first_shape, shapes, shape_of}
use Rattle.machine_session.specs.Order.{in_order}
use Rattle.machine_session.specs.Resolve.{file_meant, is_certificates, may_record, may_inspect, resolve_record, resolve_file}
use Rattle.machine_session.specs.Session.{opened, is_current, set_file, current_record, application_fits, place_fits, session_fits}
use Rattle.machine_session.specs.Verdict.{verdict}
use Rattle.machine_window.specs.Window.{begins, occurs_in, window_of, matches_in}
use Rattle.machine_reply_record.specs.Joined.{records_joined, records_data}
use Rattle.machine_reply_search.specs.Found.{is_match, matching_to, matching, hits, listed, found_data, reply}
use Rattle.machine_reply_fmm.specs.Report.{capacity, further, total, remaining, existing, asked, report_data}
use Rattle.machine_action.specs.Tests.{lc_only, le_only, neither, all_le, be16, or_current}
use Rattle.machine_record.specs.AppendRecord.{append_on, append_record}
use Rattle.machine_record.specs.ReadRecord.{record_named, four_or_five, read_record_on, all_of_record, read_record}
use Rattle.machine_record.specs.SearchRecord.{search_short, search_named, search_record, search_hits, search_reply, search_status}
use Rattle.machine_select.specs.Fmm.{fmm_on, fmm_named, fmm_file, lc_fits, fmm}
use Rattle.machine_select.specs.Select.{select_by, one_of_three, length_fits, select}
use Rattle.machine_link.specs.Link.{is_link, turn}
use Rattle.machine_dispatch.specs.Decide.{by_ins, by_own_ins, by_class, decide, data_of}
use Rattle.machine_answer.specs.Outcome.{word, says}
use Rattle.machine.specs.Effects.{searched, done}
use Rattle.machine.specs.Step.{step_by, step}
use Rattle.machine.specs.Worked.{Worked, records_in_row, section_of40, card_with, chain_of, all_rights, travel_at, replies_with}

pub worked : Worked
unfolding records_in_row section_of40 card_with chain_of all_rights travel_at replies_with splice put_fits put all_of count behind place firsts records nth used append_fits ok_at ok_to body_ok appendable record_bytes appended append le16 le32 bytes16 rules first_rule rule_of all_rules is_biometrics application_of there present_by kind_ok find_from find has present section_ok sections_ok well_formed body records_of with_body append_to by_id by_short id_of aid_prefix agrees_to aid_of big bytes_in bytes_of shortest length_bytes tag_bytes tlv form_in form_of read_form read_by length_of head_of number_in read_reference read_search certificate joined_bytes joined cleared_bytes cleared no_rights held effective same_bytes same is_cleared bit flagged record_bit certificate_bit may_records be16_at or_most header_of framed first_shape shapes shape_of in_order file_meant is_certificates may_record may_inspect resolve_record resolve_file opened is_current set_file current_record application_fits place_fits session_fits verdict begins occurs_in window_of matches_in records_joined records_data is_match matching_to matching hits listed found_data reply capacity further total remaining existing asked report_data lc_only le_only neither all_le be16 or_current append_on append_record record_named four_or_five read_record_on all_of_record read_record search_short search_named search_record search_hits search_reply search_status fmm_on fmm_named fmm_file lc_fits fmm select_by one_of_three length_fits select by_ins by_own_ins by_class decide data_of is_link turn word says searched done step_by step
worked = (refl, refl, refl, (refl, (refl, (refl, (refl, (refl, (refl, (refl, (refl, (refl, (refl, (refl, (refl, (refl, (refl, tt)))))))))))))))
