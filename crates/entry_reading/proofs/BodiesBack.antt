-- Bodies, messages and replies are read back from their spellings, and their bytes are printable.
use Rattle.std.proofs.Common.{◌≡◌, ℕ, Bool, true, false, List, [], ◌∷◌, ◌++◌, Some, refl, ap, append_assoc, append-nil}
use Rattle.std.specs.Prelude.{IsUtf8, codes, decimal}
use Rattle.hex.specs.Hex.{IsBytes}
use Rattle.std.proofs.lemmas.Bool.{and_parts}
use Rattle.page_origin.specs.Origins.{site_text, tuple_text}
use Rattle.page_origin.specs.UrlText.{is_printable}
use Rattle.page_origin.specs.declared.site.Site.{Site}
use Rattle.page_origin.specs.declared.origin.Origin.{Origin}
use Rattle.page_origin.specs.declared.origin.Origin.TheVariants.{Opaque, Tuple}
use Rattle.page_origin.specs.declared.site.Scheme.{Scheme}
use Rattle.page_origin.specs.declared.site.Scheme.TheVariants.{Http, Https}
use Rattle.page_origin.specs.HostSpelling.{is_host}
use Rattle.decimal_text.specs.Numbers.{decimal_number}
use Rattle.history_entry.specs.RuleText.{rule_text}
use Rattle.decimal_text.proofs.Numerals.{decimal_digits, number_back}
use Rattle.std.specs.Char.{is_ascii_digit}
use Rattle.history_entry.specs.declared.rule.Rule.{Rule}
use Rattle.history_entry.specs.declared.body.Body.{Body}
use Rattle.history_entry.specs.declared.body.Body.TheVariants.{AddFrame, Ask, DidCommit, Fetch, Navigate, OpenPage, Post, RemoveFrame}
use Rattle.history_entry.specs.declared.body.Message.{Message}
use Rattle.history_entry.specs.declared.body.Mode.{Mode}
use Rattle.history_entry.specs.declared.body.Mode.TheVariants.{Cors, NoCors}
use Rattle.history_entry.specs.declared.body.Src.{Src}
use Rattle.history_entry.specs.declared.body.Src.TheVariants.{Doc, Url}
use Rattle.history_entry.specs.declared.body.Target.{Target}
use Rattle.history_entry.specs.declared.body.Target.TheVariants.{Any, Of, Own}
use Rattle.history_entry.specs.declared.reply.Reply.{Reply}
use Rattle.history_entry.specs.declared.reply.Reply.TheVariants.{Answer, Deny, Drop, Kill, Ok as Okay}
use Rattle.entry_text.specs.Lines.{body_text, field, hex_text, mode_text, origin_line, reply_text, sandbox_text, src_text, target_text}
use Rattle.entry_reading.specs.Entries.{IsBody, IsMessage, IsNumber, IsOrigin, IsPort, IsReply, IsSite, IsSource, IsTarget}
use Rattle.call_answers.specs.Chains.{◌>>=◌}
use Rattle.entry_reading.specs.Fields.{field_by, next_field, origin_of, rule_of, site_of, text_of}
use Rattle.entry_reading.specs.Bodies.{add_frame, ask, body, body_by, did_commit, fetch, message, mode_of, navigate, open_page, post, remove_frame, reply, reply_by, sandbox_of, src, src_by, target_of}
use Rattle.page_origin.proofs.Spellings.{are_printable, are_visible, printable_from_visible}
use Rattle.entry_reading.proofs.FieldsBack.{before_mark, decimal_visible, field_back, goes_on, hex_visible, onwards_mark, text_back, text_bytes}
use Rattle.entry_reading.proofs.OriginsBack.{origin_back, tuple_back, origin_visible, site_back, site_visible}
use Rattle.entry_reading.proofs.RulesBack.{rule_back, rule_visible}

-- ---- each kind of field, with what stands behind it, and at the end

pub number_again : (n : ℕ) → IsNumber n → (rest : List ℕ) → goes_on 32 rest ≡ true → field_by decimal_number (32 ∷ (decimal n ++ rest)) ≡ Some (n, rest)
number_again n small rest on = field_back decimal_number (decimal n) rest n (decimal_visible n small) on (number_back n small)

pub number_last : (n : ℕ) → IsNumber n → field_by decimal_number (32 ∷ decimal n) ≡ Some (n, [])
number_last n small = rw append-nil at (number_again n small [] refl)

pub origin_again : (origin : Origin) → IsOrigin origin → (rest : List ℕ) → goes_on 32 rest ≡ true → field_by origin_of (32 ∷ (origin_line origin ++ rest)) ≡ Some (origin, rest)
origin_again origin valid rest on = field_back origin_of (origin_line origin) rest origin (origin_visible origin valid) on (origin_back origin valid)

pub site_again : (site : Site) → IsSite site → (rest : List ℕ) → goes_on 32 rest ≡ true → field_by site_of (32 ∷ (site_text site ++ rest)) ≡ Some (site, rest)
site_again site valid rest on = field_back site_of (site_text site) rest site (site_visible site valid) on (site_back site valid)

pub text_again : (text : List ℕ) → IsUtf8 text → (rest : List ℕ) → goes_on 32 rest ≡ true → field_by text_of (32 ∷ (hex_text text ++ rest)) ≡ Some (text, rest)
text_again text valid rest on = field_back text_of (hex_text text) rest text (hex_visible text (text_bytes text valid)) on (text_back text valid)

pub text_last : (text : List ℕ) → IsUtf8 text → field_by text_of (32 ∷ hex_text text) ≡ Some (text, [])
text_last text valid = rw append-nil at (text_again text valid [] refl)

pub rule_again : (rule : Rule) → (rest : List ℕ) → goes_on 32 rest ≡ true → field_by rule_of (32 ∷ (rule_text rule ++ rest)) ≡ Some (rule, rest)
rule_again rule rest on = field_back rule_of (rule_text rule) rest rule (rule_visible rule) on (rule_back rule)

pub rule_last : (rule : Rule) → field_by rule_of (32 ∷ rule_text rule) ≡ Some (rule, [])
rule_last rule = rw append-nil at (rule_again rule [] refl)

mode_again : (mode : Mode) → (rest : List ℕ) → goes_on 32 rest ≡ true → field_by mode_of (32 ∷ (mode_text mode ++ rest)) ≡ Some (mode, rest)
mode_again Cors rest on = field_back mode_of (codes "cors") rest Cors refl on refl
mode_again NoCors rest on = field_back mode_of (codes "no-cors") rest NoCors refl on refl

sandbox_again : (sandbox : Bool) → (rest : List ℕ) → goes_on 32 rest ≡ true → field_by sandbox_of (32 ∷ (sandbox_text sandbox ++ rest)) ≡ Some (sandbox, rest)
sandbox_again true rest on = field_back sandbox_of (codes "sandboxed") rest true refl on refl
sandbox_again false rest on = field_back sandbox_of (codes "plain") rest false refl on refl

-- an origin is longer than a mark
tuple_target : (scheme : Scheme) (host : List ℕ) (port : ℕ) → is_host host ≡ true → IsPort port → target_of (tuple_text (record { scheme = scheme; host = host; port = port })) ≡ Some (Of (Tuple (record { scheme = scheme; host = host; port = port })))
tuple_target Http host port valid small = ap (λ read. read >>= λ origin. Some (Of origin)) (tuple_back Http host port valid small)
tuple_target Https host port valid small = ap (λ read. read >>= λ origin. Some (Of origin)) (tuple_back Https host port valid small)

origin_target : (origin : Origin) → IsOrigin origin → target_of (origin_line origin) ≡ Some (Of origin)
unfolding origin_line
origin_target (Tuple o) valid = tuple_target o.scheme o.host o.port valid.0 valid.1
origin_target (Opaque o) valid = ap (λ read. read >>= λ origin. Some (Of origin)) (origin_back (Opaque o) valid)

target_visible : (target : Target) → IsTarget target → are_visible (target_text target) ≡ true
unfolding target_text
target_visible Any valid = refl
target_visible Own valid = refl
target_visible (Of origin) valid = origin_visible origin valid

target_back : (target : Target) → IsTarget target → target_of (target_text target) ≡ Some target
unfolding target_text
target_back Any valid = refl
target_back Own valid = refl
target_back (Of origin) valid = origin_target origin valid

target_again : (target : Target) → IsTarget target → (rest : List ℕ) → goes_on 32 rest ≡ true → field_by target_of (32 ∷ (target_text target ++ rest)) ≡ Some (target, rest)
target_again target valid rest on = field_back target_of (target_text target) rest target (target_visible target valid) on (target_back target valid)

-- ---- bodies

src_again : (source : Src) → IsSource source → (rest : List ℕ) → goes_on 32 rest ≡ true → src (32 ∷ (src_text source ++ rest)) ≡ Some (source, rest)
unfolding next_field src_by src_text
src_again (Url text) valid rest on = rw (text_again text valid rest on) refl
src_again (Doc index) valid rest on = rw (number_again index valid rest on) refl

navigate_again : (frame : ℕ) (url : List ℕ) (initiator : Origin) → IsNumber frame → IsUtf8 url → IsOrigin initiator → (rest : List ℕ) → goes_on 32 rest ≡ true → navigate (32 ∷ ((((decimal frame) ++ field (origin_line initiator)) ++ field (hex_text url)) ++ rest)) ≡ Some (Navigate frame url initiator, rest)
unfolding navigate
navigate_again frame url initiator small text from rest on =
    simp append_assoc (rw (number_again frame small (32 ∷ (origin_line initiator ++ (32 ∷ (hex_text url ++ rest)))) refl) (rw (origin_again initiator from (32 ∷ (hex_text url ++ rest)) refl) (rw (text_again url text rest on) refl)))

add_frame_again : (source : Src) (sandbox : Bool) → IsSource source → (rest : List ℕ) → goes_on 32 rest ≡ true → add_frame (32 ∷ (((sandbox_text sandbox) ++ field (src_text source)) ++ rest)) ≡ Some (AddFrame source sandbox, rest)
unfolding add_frame
add_frame_again source sandbox valid rest on =
    simp append_assoc (rw (sandbox_again sandbox (32 ∷ (src_text source ++ rest)) refl) (rw (src_again source valid rest on) refl))

remove_frame_again : (frame : ℕ) → IsNumber frame → (rest : List ℕ) → goes_on 32 rest ≡ true → remove_frame (32 ∷ ((decimal frame) ++ rest)) ≡ Some (RemoveFrame frame, rest)
unfolding remove_frame
remove_frame_again frame small rest on =
    rw (number_again frame small rest on) refl

open_page_again : (url : List ℕ) → IsUtf8 url → (rest : List ℕ) → goes_on 32 rest ≡ true → open_page (32 ∷ ((hex_text url) ++ rest)) ≡ Some (OpenPage url, rest)
unfolding open_page
open_page_again url text rest on =
    rw (text_again url text rest on) refl

fetch_again : (url : List ℕ) (mode : Mode) (initiator : Origin) → IsUtf8 url → IsOrigin initiator → (rest : List ℕ) → goes_on 32 rest ≡ true → fetch (32 ∷ ((((mode_text mode) ++ field (origin_line initiator)) ++ field (hex_text url)) ++ rest)) ≡ Some (Fetch url mode initiator, rest)
unfolding fetch
fetch_again url mode initiator text from rest on =
    simp append_assoc (rw (mode_again mode (32 ∷ (origin_line initiator ++ (32 ∷ (hex_text url ++ rest)))) refl) (rw (origin_again initiator from (32 ∷ (hex_text url ++ rest)) refl) (rw (text_again url text rest on) refl)))

post_again : (frame : ℕ) (target : Target) (source : Origin) (sent : List ℕ) → IsNumber frame → IsTarget target → IsOrigin source → IsUtf8 sent → (rest : List ℕ) → goes_on 32 rest ≡ true → post (32 ∷ (((((decimal frame) ++ field (target_text target)) ++ field (origin_line source)) ++ field (hex_text sent)) ++ rest)) ≡ Some (Post frame target source sent, rest)
unfolding post
post_again frame target source sent small to from text rest on =
    simp append_assoc (rw (number_again frame small (32 ∷ (target_text target ++ (32 ∷ (origin_line source ++ (32 ∷ (hex_text sent ++ rest)))))) refl) (rw (target_again target to (32 ∷ (origin_line source ++ (32 ∷ (hex_text sent ++ rest)))) refl) (rw (origin_again source from (32 ∷ (hex_text sent ++ rest)) refl) (rw (text_again sent text rest on) refl))))

ask_again : (service : List ℕ) (origin : Origin) (request : List ℕ) → IsUtf8 service → IsOrigin origin → IsUtf8 request → (rest : List ℕ) → goes_on 32 rest ≡ true → ask (32 ∷ ((((hex_text service) ++ field (origin_line origin)) ++ field (hex_text request)) ++ rest)) ≡ Some (Ask service origin request, rest)
unfolding ask
ask_again service origin request name from text rest on =
    simp append_assoc (rw (text_again service name (32 ∷ (origin_line origin ++ (32 ∷ (hex_text request ++ rest)))) refl) (rw (origin_again origin from (32 ∷ (hex_text request ++ rest)) refl) (rw (text_again request text rest on) refl)))

did_commit_again : (nav : ℕ) (url : List ℕ) (origin : Origin) → IsNumber nav → IsUtf8 url → IsOrigin origin → (rest : List ℕ) → goes_on 32 rest ≡ true → did_commit (32 ∷ ((((decimal nav) ++ field (origin_line origin)) ++ field (hex_text url)) ++ rest)) ≡ Some (DidCommit nav url origin, rest)
unfolding did_commit
did_commit_again nav url origin small text from rest on =
    simp append_assoc (rw (number_again nav small (32 ∷ (origin_line origin ++ (32 ∷ (hex_text url ++ rest)))) refl) (rw (origin_again origin from (32 ∷ (hex_text url ++ rest)) refl) (rw (text_again url text rest on) refl)))

body_again : (said : Body) → IsBody said → (rest : List ℕ) → goes_on 32 rest ≡ true → body (32 ∷ (body_text said ++ rest)) ≡ Some (said, rest)
unfolding next_field body_by body_text
body_again (Navigate frame url initiator) valid rest on = navigate_again frame url initiator valid.0 valid.1 valid.2 rest on
body_again (AddFrame source sandbox) valid rest on = add_frame_again source sandbox valid rest on
body_again (RemoveFrame frame) valid rest on = remove_frame_again frame valid rest on
body_again (OpenPage url) valid rest on = open_page_again url valid rest on
body_again (Fetch url mode initiator) valid rest on = fetch_again url mode initiator valid.0 valid.1 rest on
body_again (Post frame target source text) valid rest on = post_again frame target source text valid.0 valid.1 valid.2 valid.3 rest on
body_again (Ask service origin request) valid rest on = ask_again service origin request valid.0 valid.1 valid.2 rest on
body_again (DidCommit nav url origin) valid rest on = did_commit_again nav url origin valid.0 valid.1 valid.2 rest on

-- a message is read back
pub message_again : (sent : Message) → IsMessage sent → (rest : List ℕ) → goes_on 32 rest ≡ true → message (decimal sent.document ++ 32 ∷ (body_text sent.body ++ rest)) ≡ Some (sent, rest)
unfolding message
message_again sent valid rest on =
    rw (before_mark 32 is_ascii_digit (decimal sent.document) (32 ∷ (body_text sent.body ++ rest)) refl (decimal_digits sent.document valid.0) refl)
    (rw (onwards_mark 32 is_ascii_digit (decimal sent.document) (32 ∷ (body_text sent.body ++ rest)) refl (decimal_digits sent.document valid.0) refl)
    (rw (number_back sent.document valid.0) (rw (body_again sent.body valid.1 rest on) refl)))

-- a reply is read back
pub reply_last : (r : Reply) → IsReply r → reply (reply_text r) ≡ Some (r, [])
unfolding reply_by reply_text
reply_last Okay valid = refl
reply_last (Answer text) valid = rw (text_last text valid) refl
reply_last (Deny rule) valid = rw (rule_last rule) refl
reply_last (Drop rule) valid = rw (rule_last rule) refl
reply_last (Kill rule) valid = rw (rule_last rule) refl

-- ---- their bytes are printable

pub printable_append : (a b : List ℕ) → are_printable a ≡ true → are_printable b ≡ true → are_printable (a ++ b) ≡ true
printable_append [] b first second = second
printable_append (x ∷ a) b first second =
    let parts = and_parts (is_printable x) (are_printable a) first in
    rw (parts.0, printable_append a b parts.1 second) refl

pub number_printable : (n : ℕ) → IsNumber n → are_printable (decimal n) ≡ true
number_printable n small = printable_from_visible (decimal n) (decimal_visible n small)

pub origin_printable : (origin : Origin) → IsOrigin origin → are_printable (origin_line origin) ≡ true
origin_printable origin valid = printable_from_visible (origin_line origin) (origin_visible origin valid)

pub site_printable : (site : Site) → IsSite site → are_printable (site_text site) ≡ true
site_printable site valid = printable_from_visible (site_text site) (site_visible site valid)

pub bytes_printable : (bytes : List ℕ) → IsBytes bytes → are_printable (hex_text bytes) ≡ true
bytes_printable bytes are = printable_from_visible (hex_text bytes) (hex_visible bytes are)

pub text_printable : (text : List ℕ) → IsUtf8 text → are_printable (hex_text text) ≡ true
text_printable text valid = bytes_printable text (text_bytes text valid)

pub rule_printable : (rule : Rule) → are_printable (rule_text rule) ≡ true
rule_printable rule = printable_from_visible (rule_text rule) (rule_visible rule)

mode_printable : (mode : Mode) → are_printable (mode_text mode) ≡ true
mode_printable Cors = refl
mode_printable NoCors = refl

sandbox_printable : (sandbox : Bool) → are_printable (sandbox_text sandbox) ≡ true
sandbox_printable true = refl
sandbox_printable false = refl

src_printable : (source : Src) → IsSource source → are_printable (src_text source) ≡ true
unfolding src_text
src_printable (Url text) valid = text_printable text valid
src_printable (Doc index) valid = number_printable index valid

target_printable : (target : Target) → IsTarget target → are_printable (target_text target) ≡ true
target_printable target valid = printable_from_visible (target_text target) (target_visible target valid)

pub body_printable : (body : Body) → IsBody body → are_printable (body_text body) ≡ true
unfolding body_text
body_printable (Navigate frame url initiator) valid = printable_append ((decimal frame) ++ 32 ∷ origin_line initiator) (32 ∷ hex_text url) (printable_append (decimal frame) (32 ∷ origin_line initiator) (number_printable frame (valid.0)) (origin_printable initiator (valid.2))) (text_printable url (valid.1))
body_printable (AddFrame source sandbox) valid = printable_append (sandbox_text sandbox) (32 ∷ src_text source) (sandbox_printable sandbox) (src_printable source valid)
body_printable (RemoveFrame frame) valid = number_printable frame (valid)
body_printable (OpenPage url) valid = text_printable url (valid)
body_printable (Fetch url mode initiator) valid = printable_append ((mode_text mode) ++ 32 ∷ origin_line initiator) (32 ∷ hex_text url) (printable_append (mode_text mode) (32 ∷ origin_line initiator) (mode_printable mode) (origin_printable initiator (valid.1))) (text_printable url (valid.0))
body_printable (Post frame target source text) valid = printable_append (((decimal frame) ++ 32 ∷ target_text target) ++ 32 ∷ origin_line source) (32 ∷ hex_text text) (printable_append ((decimal frame) ++ 32 ∷ target_text target) (32 ∷ origin_line source) (printable_append (decimal frame) (32 ∷ target_text target) (number_printable frame (valid.0)) (target_printable target valid.1)) (origin_printable source (valid.2))) (text_printable text (valid.3))
body_printable (Ask service origin request) valid = printable_append ((hex_text service) ++ 32 ∷ origin_line origin) (32 ∷ hex_text request) (printable_append (hex_text service) (32 ∷ origin_line origin) (text_printable service (valid.0)) (origin_printable origin (valid.1))) (text_printable request (valid.2))
body_printable (DidCommit nav url origin) valid = printable_append ((decimal nav) ++ 32 ∷ origin_line origin) (32 ∷ hex_text url) (printable_append (decimal nav) (32 ∷ origin_line origin) (number_printable nav (valid.0)) (origin_printable origin (valid.2))) (text_printable url (valid.1))

pub reply_printable : (r : Reply) → IsReply r → are_printable (reply_text r) ≡ true
unfolding reply_text
reply_printable Okay valid = refl
reply_printable (Answer text) valid = text_printable text valid
reply_printable (Deny rule) valid = rule_printable rule
reply_printable (Drop rule) valid = rule_printable rule
reply_printable (Kill rule) valid = rule_printable rule
