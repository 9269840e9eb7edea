-- What a row unfolds to compute a run: the words of histories and those below them.
use Rattle.std.specs.Prelude.{⊤}
use Rattle.url.proofs.OnLiterals.{url_on_literals}
use Rattle.http_header.specs.Token.{is_token_byte}
use Rattle.hex.specs.Hex.{encode_with}
use Rattle.public_suffix.specs.RegistrableDomain.{fits_last, registrable, suffix_label_count}
use Rattle.page_origin.specs.Origins.{tuple_of}
use Rattle.page_origin.specs.PageUrls.{admitted, class_of, key_of, parts_of, read_url, url_text}
use Rattle.site_url.specs.Addresses.{is_dotted_quad, is_ip_address, is_octet}
use Rattle.site_url.specs.Sites.{is_isolated, site_host, site_of_tuple}
use Rattle.mime_kind.specs.Kinds.{kind_of}
use Rattle.mime_kind.specs.Nosniff.{nosniff}
use Rattle.mime_kind.specs.ResourcePolicies.{resource_policy}
use Rattle.cors_check.specs.Chains.{compared_text}
use Rattle.cors_check.specs.Cors.{cors}
use Rattle.corb_sniff.specs.Answers.{is_settled}
use Rattle.corb_sniff.specs.Confirmation.{found_in}
use Rattle.corb_sniff.specs.Hope.{may_be_found, may_be_html, may_be_json, may_be_xml, may_have_prefix}
use Rattle.corb_sniff.specs.HtmlGrammar.{holds_behind_blanks, holds_within, is_html, is_lower_html}
use Rattle.corb_sniff.specs.JsonGrammar.{is_json}
use Rattle.corb_sniff.specs.ScriptPrefixes.{has_prefix}
use Rattle.corb_sniff.specs.XmlGrammar.{is_xml}
use Rattle.entry_text.specs.Lines.{body_text, entry_text, hex_text, hop_text, how_text, line_of, message_text, origin_line, reply_text, src_text, target_text, what_text}
use Rattle.history_rules.specs.Orders.{had_order, order_of, was_answered, was_ordered}
use Rattle.script_model.specs.ScriptData.{find_resource}
use Rattle.script_model.specs.Verdicts.{body_verdict, bytes_verdict, head_verdict, is_left_out, is_same_site_chain, verdict}
use Rattle.decimal_text.specs.Numbers.{decimal_number, is_numeral, number_below}
use Rattle.history_rules.specs.Choice.{choice, may_start, process_in_group, process_of_site, warm_process}
use Rattle.history_rules.specs.Documents.{actions_done, document_in, document_url, hosted, is_current, is_kept, is_present, last_in, may_navigate, origin_of, process_of}
use Rattle.history_rules.specs.Frames.{frame_maker, frame_of, group_of, is_sandboxed, lineage, navigation_maker, opener_of, top_of, was_made}
use Rattle.history_rules.specs.Inboxes.{inbox, posts_to}
use Rattle.history_rules.specs.Judgement.{judge, judge_add_frame, judge_ask, judge_commit, judge_fetch, judge_navigate, judge_open_page, judge_post, judge_remove_frame}
use Rattle.history_rules.specs.Navigations.{base_origin, began, chain_of, commit_origin, first_url, initiator_of, is_committed, is_newest, is_pending, is_replaced, is_waiting}
use Rattle.script_model.specs.Pieces.{pieces, seen_body}
use Rattle.history_rules.specs.Processes.{is_dead, is_live, is_locked, is_locked_to, is_warm, live_count, lock_of, site_number, standing, started}
use Rattle.history_rules.specs.Redirects.{hop_url}
use Rattle.history_rules.specs.Requests.{cors_fails, delivered, has_end, has_head, has_live_request, head_of, is_live_request, is_read_chain, request_chain, request_maker, request_origin, request_verdict, response_verdict}
use Rattle.history_rules.specs.Services.{accepted_requests}
use Rattle.history_rules.specs.Sights.{act_of, added_by, next_act, resource_of_document, sight_of}
use Rattle.service_rule.specs.Store.{answer_request, key_count, store_request, store_rule, value_of}
use Rattle.history_steps.specs.Deliveries.{body_end, end_how, end_next, head_next, piece_next, redirect_end, request_hop}
use Rattle.history_steps.specs.MayFollow.{chosen_order, commit_by, commit_next, crash_next, end_navigation_next, end_rule, exit_next, local_in, local_next, local_what, navigation_hop, next_of, open_next, order_next, order_with, said_in, said_next, warm_next}
use Rattle.history_steps.specs.Nexts.{process_commits, commit_in_process, commit_nexts, crash_nexts, end_navigation_nexts, end_nexts, exit_nexts, head_nexts, hop_nexts, local_nexts, nexts, order_nexts, piece_nexts, said_nexts}
use Rattle.history_entries.specs.Text.{lines_of, text_of}
use Rattle.history_laws.specs.CommitLaw.{is_over}
use Rattle.history_laws.specs.KillLaw.{touches}
use Rattle.history_laws.specs.ReceiveLaw.{is_allowed, is_awaited}
use Rattle.history_laws.specs.Received.{received}
use Rattle.history_laws.specs.Secret.{swap_body, was_never_of}

unfoldable pub history_on_literals : ⊤
unfolding process_commits was_answered process_in_group process_of_site warm_process may_start choice last_in is_kept is_present document_in is_current hosted process_of order_of origin_of document_url actions_done may_navigate was_made frame_maker navigation_maker frame_of lineage top_of opener_of group_of is_sandboxed posts_to inbox judge_navigate judge_add_frame judge_remove_frame judge_open_page judge_fetch judge_post judge_ask judge_commit judge first_url chain_of began is_replaced is_newest was_ordered had_order is_committed is_pending is_waiting initiator_of base_origin commit_origin pieces seen_body is_dead lock_of is_locked is_locked_to is_warm is_live standing started live_count site_number hop_url request_maker request_origin request_chain head_of has_head has_end delivered is_live_request has_live_request is_read_chain cors_fails response_verdict request_verdict accepted_requests resource_of_document added_by sight_of act_of next_act store_request value_of key_count answer_request store_rule request_hop head_next piece_next redirect_end body_end end_how end_next open_next warm_next navigation_hop order_with chosen_order order_next end_rule end_navigation_next said_in said_next crash_next commit_by commit_next local_what local_in local_next exit_next next_of hop_nexts order_nexts end_navigation_nexts said_nexts crash_nexts commit_in_process commit_nexts local_nexts head_nexts piece_nexts end_nexts exit_nexts nexts is_over is_allowed is_awaited touches received swap_body was_never_of is_settled found_in may_be_found may_be_html may_be_json may_be_xml may_have_prefix holds_behind_blanks holds_within is_html is_lower_html is_json has_prefix is_xml compared_text cors body_text entry_text hex_text hop_text how_text line_of message_text origin_line reply_text src_text target_text what_text encode_with lines_of text_of is_token_byte kind_of nosniff resource_policy tuple_of admitted class_of key_of parts_of read_url url_text fits_last registrable suffix_label_count find_resource body_verdict bytes_verdict head_verdict is_left_out is_same_site_chain verdict is_dotted_quad is_ip_address is_octet decimal_number number_below is_numeral is_isolated site_host site_of_tuple url_on_literals
history_on_literals = tt
