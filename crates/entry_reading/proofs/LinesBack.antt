-- Each line is read back from its spelling, its bytes are printable, and so no two entries have one line.
use Rattle.std.proofs.Common.{◌≡◌, ℕ, ◌<◌, true, List, [], ◌∷◌, ◌++◌, length, Some, refl, sym, ap, ◌∙◌, append_assoc, append-nil}
use Rattle.std.specs.Prelude.{IsUtf8, codes, decimal}
use Rattle.hex.specs.Hex.{IsBytes}
use Rattle.page_origin.specs.Origins.{site_text}
use Rattle.page_origin.specs.UrlText.{is_printable, is_url_spelling}
use Rattle.page_origin.specs.declared.site.Site.{Site}
use Rattle.page_origin.specs.declared.origin.Origin.{Origin}
use Rattle.history_entry.specs.RuleText.{rule_text}
use Rattle.history_entry.specs.declared.rule.Rule.{Rule}
use Rattle.history_entry.specs.declared.body.Message.{Message}
use Rattle.history_entry.specs.declared.reply.Reply.{Reply}
use Rattle.history_entry.specs.declared.entry.EndHow.{EndHow}
use Rattle.history_entry.specs.declared.entry.EndHow.TheVariants.{Blocked, Failed, Whole}
use Rattle.history_entry.specs.declared.entry.Entry.{Entry}
use Rattle.history_entry.specs.declared.entry.Entry.TheVariants.{Commit, Crash, End, Exit, Head, Hop, Local, NavEnd, Opened, Order, Piece, Said, Warm}
use Rattle.history_entry.specs.declared.entry.HopOf.{HopOf}
use Rattle.history_entry.specs.declared.entry.HopOf.TheVariants.{Nav, Req}
use Rattle.history_entry.specs.declared.entry.LocalWhat.{LocalWhat}
use Rattle.history_entry.specs.declared.entry.LocalWhat.TheVariants.{Skipped, Took, Waited}
use Rattle.entry_text.specs.Lines.{body_text, entry_text, field, hex_text, hop_text, how_text, line_of, number as number_text, origin_line, reply_text, what_text}
use Rattle.entry_reading.specs.Entries.{IsEntry, IsHopOf, IsMessage, IsNumber, IsOrigin, IsReply, IsSite, IsWhat}
use Rattle.entry_reading.specs.Fields.{before, field_by, next_field, onwards, piece_of}
use Rattle.entry_reading.specs.Reading.{commit, end, entry_by, entry_of, head, hop, hop_of, hop_of_by, how, how_by, local, nav_end, order, piece, said, url, what, what_by}
use Rattle.page_origin.proofs.Spellings.{are_printable, url_printable}
use Rattle.entry_reading.proofs.FieldsBack.{before_mark, field_back, goes_on, hex_visible, onwards_mark, piece_back, url_back}
use Rattle.entry_reading.proofs.BodiesBack.{body_printable, bytes_printable, message_again, number_again, number_last, number_printable, origin_again, origin_printable, printable_append, reply_last, reply_printable, rule_last, rule_printable, site_again, site_printable, text_again, text_last, text_printable}

-- ---- each kind of line

piece_last : (bytes : List ℕ) → IsBytes bytes → 0 < length bytes → field_by piece_of (32 ∷ hex_text bytes) ≡ Some (bytes, [])
piece_last bytes are some = rw append-nil at (field_back piece_of (hex_text bytes) [] bytes (hex_visible bytes are) refl (piece_back bytes are some))

url_last : (text : List ℕ) → is_url_spelling text ≡ true → url (32 ∷ text) ≡ Some (text, [])
unfolding url
url_last text is = rw (url_back text is) refl

hop_of_again : (of : HopOf) → IsHopOf of → (rest : List ℕ) → goes_on 32 rest ≡ true → hop_of (32 ∷ (hop_text of ++ rest)) ≡ Some (of, rest)
unfolding next_field hop_of_by hop_text
hop_of_again (Nav n) small rest on = rw (number_again n small rest on) refl
hop_of_again (Req r) small rest on = rw (number_again r small rest on) refl

what_last : (done : LocalWhat) → IsWhat done → what (32 ∷ what_text done) ≡ Some (done, [])
unfolding next_field what_by what_text
what_last Waited valid = refl
what_last Skipped valid = refl
what_last (Took source text) valid = rw (origin_again source valid.0 (32 ∷ hex_text text) refl) (rw (text_last text valid.1) refl)

how_last : (ended : EndHow) → how (32 ∷ how_text ended) ≡ Some (ended, [])
unfolding next_field how_by how_text
how_last Whole = refl
how_last (Blocked rule) = rw (rule_last rule) refl
how_last (Failed rule) = rw (rule_last rule) refl

-- the fields of a line, grouped to the right
five_fields : (a b c d e : List ℕ) → (((a ++ 32 ∷ b) ++ 32 ∷ c) ++ 32 ∷ d) ++ 32 ∷ e ≡ a ++ 32 ∷ (b ++ 32 ∷ (c ++ 32 ∷ (d ++ 32 ∷ e)))
five_fields a b c d e = simp append_assoc

fields_of_said : (a b c d e f g : List ℕ) → (((((a ++ 32 ∷ b) ++ 32 ∷ c) ++ 32 ∷ d) ++ 32 ∷ e) ++ f) ++ g ≡ a ++ 32 ∷ (b ++ 32 ∷ (c ++ 32 ∷ (d ++ 32 ∷ (e ++ (f ++ g)))))
fields_of_said a b c d e f g =
    append_assoc ((((a ++ 32 ∷ b) ++ 32 ∷ c) ++ 32 ∷ d) ++ 32 ∷ e) f g
    ∙ ap (λ t. t ++ (f ++ g)) (five_fields a b c d e)
    ∙ append_assoc a (32 ∷ (b ++ 32 ∷ (c ++ 32 ∷ (d ++ 32 ∷ e)))) (f ++ g)
    ∙ ap (λ t. a ++ 32 ∷ t) (append_assoc b (32 ∷ (c ++ 32 ∷ (d ++ 32 ∷ e))) (f ++ g))
    ∙ ap (λ t. a ++ 32 ∷ (b ++ 32 ∷ t)) (append_assoc c (32 ∷ (d ++ 32 ∷ e)) (f ++ g))
    ∙ ap (λ t. a ++ 32 ∷ (b ++ 32 ∷ (c ++ 32 ∷ t))) (append_assoc d (32 ∷ e) (f ++ g))

fields_of_commit : (a b c d f g : List ℕ) → ((((a ++ 32 ∷ b) ++ 32 ∷ c) ++ 32 ∷ d) ++ f) ++ g ≡ a ++ 32 ∷ (b ++ 32 ∷ (c ++ 32 ∷ (d ++ (f ++ g))))
fields_of_commit a b c d f g =
    append_assoc (((a ++ 32 ∷ b) ++ 32 ∷ c) ++ 32 ∷ d) f g
    ∙ ap (λ t. (t ++ 32 ∷ d) ++ (f ++ g)) (append_assoc a (32 ∷ b) (32 ∷ c))
    ∙ ap (λ t. t ++ (f ++ g)) (append_assoc a (32 ∷ (b ++ 32 ∷ c)) (32 ∷ d))
    ∙ ap (λ t. (a ++ 32 ∷ t) ++ (f ++ g)) (append_assoc b (32 ∷ c) (32 ∷ d))
    ∙ append_assoc a (32 ∷ (b ++ 32 ∷ (c ++ 32 ∷ d))) (f ++ g)
    ∙ ap (λ t. a ++ 32 ∷ t) (append_assoc b (32 ∷ (c ++ 32 ∷ d)) (f ++ g))
    ∙ ap (λ t. a ++ 32 ∷ (b ++ 32 ∷ t)) (append_assoc c (32 ∷ d) (f ++ g))

hop_back : (of : HopOf) (last : List ℕ) → IsHopOf of → is_url_spelling last ≡ true → hop (32 ∷ (hop_text of ++ 32 ∷ last)) ≡ Some (Hop of last, [])
unfolding hop
hop_back of last valid is = rw (hop_of_again of valid (32 ∷ last) refl) (rw (url_last last is) refl)

order_back : (n p : ℕ) (site : Site) (origin : Origin) (last : List ℕ) → IsNumber n → IsNumber p → IsSite site → IsOrigin origin → is_url_spelling last ≡ true
    → order (32 ∷ ((((decimal n ++ number_text p) ++ field (site_text site)) ++ field (origin_line origin)) ++ field last)) ≡ Some (Order n p site origin last, [])
unfolding order
order_back n p site origin last a b c d is =
    rw (five_fields (decimal n) (decimal p) (site_text site) (origin_line origin) last)
    (rw (number_again n a (32 ∷ (decimal p ++ (32 ∷ (site_text site ++ (32 ∷ (origin_line origin ++ (32 ∷ last))))))) refl)
    (rw (number_again p b (32 ∷ (site_text site ++ (32 ∷ (origin_line origin ++ (32 ∷ last))))) refl)
    (rw (site_again site c (32 ∷ (origin_line origin ++ (32 ∷ last))) refl)
    (rw (origin_again origin d (32 ∷ last) refl) (rw (url_last last is) refl)))))

nav_end_back : (n : ℕ) (rule : Rule) → IsNumber n → nav_end (32 ∷ (decimal n ++ field (rule_text rule))) ≡ Some (NavEnd n rule, [])
unfolding nav_end
nav_end_back n rule a = rw (number_again n a (32 ∷ rule_text rule) refl) (rw (rule_last rule) refl)

local_back : (p d k : ℕ) (done : LocalWhat) → IsNumber p → IsNumber d → IsNumber k → IsWhat done
    → local (32 ∷ (((decimal p ++ number_text d) ++ number_text k) ++ field (what_text done))) ≡ Some (Local p d k done, [])
unfolding local
local_back p d k done a b c w =
    simp append_assoc
    (rw (number_again p a (32 ∷ (decimal d ++ (32 ∷ (decimal k ++ (32 ∷ what_text done))))) refl)
    (rw (number_again d b (32 ∷ (decimal k ++ (32 ∷ what_text done))) refl)
    (rw (number_again k c (32 ∷ what_text done) refl) (rw (what_last done w) refl))))

head_back : (r : ℕ) (rule : Rule) → IsNumber r → head (32 ∷ (decimal r ++ field (rule_text rule))) ≡ Some (Head r rule, [])
unfolding head
head_back r rule a = rw (number_again r a (32 ∷ rule_text rule) refl) (rw (rule_last rule) refl)

piece_back_ : (r i : ℕ) (bytes : List ℕ) → IsNumber r → IsNumber i → IsBytes bytes → 0 < length bytes
    → piece (32 ∷ ((decimal r ++ number_text i) ++ field (hex_text bytes))) ≡ Some (Piece r i bytes, [])
unfolding piece
piece_back_ r i bytes a b are some =
    simp append_assoc
    (rw (number_again r a (32 ∷ (decimal i ++ (32 ∷ hex_text bytes))) refl)
    (rw (number_again i b (32 ∷ hex_text bytes) refl) (rw (piece_last bytes are some) refl)))

end_back : (r : ℕ) (ended : EndHow) → IsNumber r → end (32 ∷ (decimal r ++ field (how_text ended))) ≡ Some (End r ended, [])
unfolding end
end_back r ended a = rw (number_again r a (32 ∷ how_text ended) refl) (rw (how_last ended) refl)

-- what stands behind the message or the URL
abbrev arrow : Reply → List ℕ
arrow r = 32 ∷ 61 ∷ 62 ∷ 32 ∷ reply_text r

said_back : (p d k : ℕ) (sent : Message) (r : Reply) → IsNumber p → IsNumber d → IsNumber k → IsMessage sent → IsReply r
    → said (32 ∷ ((((((decimal p ++ number_text d) ++ number_text k) ++ number_text sent.document) ++ field (body_text sent.body)) ++ codes " => ") ++ reply_text r)) ≡ Some (Said p d k sent r, [])
unfolding said
said_back p d k sent r a b c m answer =
    rw (fields_of_said (decimal p) (decimal d) (decimal k) (decimal sent.document) (body_text sent.body) (codes " => ") (reply_text r))
    (rw (number_again p a (32 ∷ (decimal d ++ (32 ∷ (decimal k ++ (32 ∷ (decimal sent.document ++ (32 ∷ (body_text sent.body ++ arrow r)))))))) refl)
    (rw (number_again d b (32 ∷ (decimal k ++ (32 ∷ (decimal sent.document ++ (32 ∷ (body_text sent.body ++ arrow r)))))) refl)
    (rw (number_again k c (32 ∷ (decimal sent.document ++ (32 ∷ (body_text sent.body ++ arrow r)))) refl)
    (rw (message_again sent m (arrow r) refl) (rw (reply_last r answer) refl)))))

commit_back : (p n : ℕ) (origin : Origin) (told : List ℕ) (r : Reply) → IsNumber p → IsNumber n → IsOrigin origin → IsUtf8 told → IsReply r
    → commit (32 ∷ (((((decimal p ++ number_text n) ++ field (origin_line origin)) ++ field (hex_text told)) ++ codes " => ") ++ reply_text r)) ≡ Some (Commit p n origin told r, [])
unfolding commit
commit_back p n origin told r a b c text answer =
    rw (fields_of_commit (decimal p) (decimal n) (origin_line origin) (hex_text told) (codes " => ") (reply_text r))
    (rw (number_again p a (32 ∷ (decimal n ++ (32 ∷ (origin_line origin ++ (32 ∷ (hex_text told ++ arrow r)))))) refl)
    (rw (number_again n b (32 ∷ (origin_line origin ++ (32 ∷ (hex_text told ++ arrow r)))) refl)
    (rw (origin_again origin c (32 ∷ (hex_text told ++ arrow r)) refl)
    (rw (text_again told text (arrow r) refl) (rw (reply_last r answer) refl)))))

-- what is spelled is read back
pub entry_back : (e : Entry) → IsEntry e → entry_of (entry_text e) ≡ Some e
unfolding entry_of entry_by entry_text
entry_back (Opened k) valid = rw (number_last k valid) refl
entry_back (Warm p) valid = rw (number_last p valid) refl
entry_back (Hop of last) valid = rw (hop_back of last valid.0 valid.1) refl
entry_back (Order n p site origin last) valid = rw (order_back n p site origin last valid.0 valid.1 valid.2 valid.3 valid.4) refl
entry_back (NavEnd n rule) valid = rw (nav_end_back n rule valid) refl
entry_back (Said p d k sent r) valid = rw (said_back p d k sent r valid.0 valid.1 valid.2 valid.3 valid.4) refl
entry_back (Crash p) valid = rw (number_last p valid) refl
entry_back (Commit p n origin told r) valid = rw (commit_back p n origin told r valid.0 valid.1 valid.2 valid.3 valid.4) refl
entry_back (Local p d k done) valid = rw (local_back p d k done valid.0 valid.1 valid.2 valid.3) refl
entry_back (Head r rule) valid = rw (head_back r rule valid) refl
entry_back (Piece r i bytes) valid = rw (piece_back_ r i bytes valid.0 valid.1 valid.2 valid.3) refl
entry_back (End r ended) valid = rw (end_back r ended valid) refl
entry_back (Exit p) valid = rw (number_last p valid) refl

-- ---- a line's bytes are printable

hop_printable : (of : HopOf) → IsHopOf of → are_printable (hop_text of) ≡ true
unfolding hop_text
hop_printable (Nav n) small = number_printable n small
hop_printable (Req r) small = number_printable r small

what_printable : (done : LocalWhat) → IsWhat done → are_printable (what_text done) ≡ true
unfolding what_text
what_printable Waited valid = refl
what_printable Skipped valid = refl
what_printable (Took source text) valid = printable_append (origin_line source) (32 ∷ hex_text text) (origin_printable source valid.0) (text_printable text valid.1)

how_printable : (ended : EndHow) → are_printable (how_text ended) ≡ true
unfolding how_text
how_printable Whole = refl
how_printable (Blocked rule) = rule_printable rule
how_printable (Failed rule) = rule_printable rule

pub entry_printable : (e : Entry) → IsEntry e → are_printable (entry_text e) ≡ true
unfolding entry_text
entry_printable (Opened k) valid = number_printable k (valid)
entry_printable (Warm p) valid = number_printable p (valid)
entry_printable (Hop of url) valid = printable_append (hop_text of) (32 ∷ url) (hop_printable of valid.0) (url_printable url valid.1)
entry_printable (Order n p site origin url) valid = printable_append ((((decimal n) ++ 32 ∷ decimal p) ++ 32 ∷ site_text site) ++ 32 ∷ origin_line origin) (32 ∷ url) (printable_append (((decimal n) ++ 32 ∷ decimal p) ++ 32 ∷ site_text site) (32 ∷ origin_line origin) (printable_append ((decimal n) ++ 32 ∷ decimal p) (32 ∷ site_text site) (printable_append (decimal n) (32 ∷ decimal p) (number_printable n (valid.0)) (number_printable p (valid.1))) (site_printable site (valid.2))) (origin_printable origin (valid.3))) (url_printable url valid.4)
entry_printable (NavEnd n rule) valid = printable_append (decimal n) (32 ∷ rule_text rule) (number_printable n (valid)) (rule_printable rule)
entry_printable (Crash p) valid = number_printable p (valid)
entry_printable (Local p d k done) valid = printable_append (((decimal p) ++ 32 ∷ decimal d) ++ 32 ∷ decimal k) (32 ∷ what_text done) (printable_append ((decimal p) ++ 32 ∷ decimal d) (32 ∷ decimal k) (printable_append (decimal p) (32 ∷ decimal d) (number_printable p (valid.0)) (number_printable d (valid.1))) (number_printable k (valid.2))) (what_printable done valid.3)
entry_printable (Head r rule) valid = printable_append (decimal r) (32 ∷ rule_text rule) (number_printable r (valid)) (rule_printable rule)
entry_printable (Piece r i bytes) valid = printable_append ((decimal r) ++ 32 ∷ decimal i) (32 ∷ hex_text bytes) (printable_append (decimal r) (32 ∷ decimal i) (number_printable r (valid.0)) (number_printable i (valid.1))) (bytes_printable bytes valid.2)
entry_printable (End r ended) valid = printable_append (decimal r) (32 ∷ how_text ended) (number_printable r (valid)) (how_printable ended)
entry_printable (Exit p) valid = number_printable p (valid)
entry_printable (Said p d k sent r) valid =
    printable_append ((((((decimal p) ++ 32 ∷ decimal d) ++ 32 ∷ decimal k) ++ 32 ∷ decimal sent.document) ++ 32 ∷ body_text sent.body) ++ codes " => ") (reply_text r) (printable_append (((((decimal p) ++ 32 ∷ decimal d) ++ 32 ∷ decimal k) ++ 32 ∷ decimal sent.document) ++ 32 ∷ body_text sent.body) (codes " => ") (printable_append ((((decimal p) ++ 32 ∷ decimal d) ++ 32 ∷ decimal k) ++ 32 ∷ decimal sent.document) (32 ∷ body_text sent.body) (printable_append (((decimal p) ++ 32 ∷ decimal d) ++ 32 ∷ decimal k) (32 ∷ decimal sent.document) (printable_append ((decimal p) ++ 32 ∷ decimal d) (32 ∷ decimal k) (printable_append (decimal p) (32 ∷ decimal d) (number_printable p (valid.0)) (number_printable d (valid.1))) (number_printable k (valid.2))) (number_printable sent.document (valid.3.0))) (body_printable sent.body valid.3.1)) refl) (reply_printable r valid.4)
entry_printable (Commit p n origin url r) valid =
    printable_append (((((decimal p) ++ 32 ∷ decimal n) ++ 32 ∷ origin_line origin) ++ 32 ∷ hex_text url) ++ codes " => ") (reply_text r) (printable_append ((((decimal p) ++ 32 ∷ decimal n) ++ 32 ∷ origin_line origin) ++ 32 ∷ hex_text url) (codes " => ") (printable_append (((decimal p) ++ 32 ∷ decimal n) ++ 32 ∷ origin_line origin) (32 ∷ hex_text url) (printable_append ((decimal p) ++ 32 ∷ decimal n) (32 ∷ origin_line origin) (printable_append (decimal p) (32 ∷ decimal n) (number_printable p (valid.0)) (number_printable n (valid.1))) (origin_printable origin (valid.2))) (text_printable url (valid.3))) refl) (reply_printable r valid.4)

-- ---- one spelling

some_same : {A : Type 0} (a b : A) → Some a ≡ Some b → a ≡ b
some_same a b same = cc

-- entries with one spelling are equal
pub one_spelling : (e f : Entry) → IsEntry e → IsEntry f → entry_text e ≡ entry_text f → e ≡ f
one_spelling e f a b same = some_same e f (sym (entry_back e a) ∙ ap entry_of same ∙ entry_back f b)

-- the spelling is what stands before the line feed
pub before_feed : (e : Entry) (rest : List ℕ) → IsEntry e → before 10 (line_of e ++ rest) ≡ entry_text e
unfolding line_of
before_feed e rest valid =
    rw (append_assoc (entry_text e) (10 ∷ []) rest) (before_mark 10 is_printable (entry_text e) (10 ∷ rest) refl (entry_printable e valid) refl)

-- and the line feed is what it goes on with
pub from_feed : (e : Entry) (rest : List ℕ) → IsEntry e → onwards 10 (line_of e ++ rest) ≡ 10 ∷ rest
unfolding line_of
from_feed e rest valid =
    rw (append_assoc (entry_text e) (10 ∷ []) rest) (onwards_mark 10 is_printable (entry_text e) (10 ∷ rest) refl (entry_printable e valid) refl)

-- no line begins the line of another entry
pub one_line : (e f : Entry) (u v : List ℕ) → IsEntry e → IsEntry f → line_of e ++ u ≡ line_of f ++ v → e ≡ f
one_line e f u v a b same = one_spelling e f a b (sym (before_feed e u a) ∙ ap (before 10) same ∙ before_feed f v b)
