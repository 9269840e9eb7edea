-- A legal history of a script with few start pages has small numbers, and its current documents have origins.
use Rattle.std.proofs.Common.{arith, refl}
use Rattle.std.specs.Prelude.{◌≡◌, ◌<◌, ◌≤◌, ◌&&◌, Bool, List, None, Option, Some, false, is_some, not, option_map, true, ℕ}
use Rattle.std.specs.Option.{option_map_or}
use Rattle.history_entry.specs.declared.entry.Entry.{Entry}
use Rattle.script_model.specs.ScriptData.{ScriptData, starts}
use Rattle.history_rules.specs.Documents.{document_in, is_current, origin_of}
use Rattle.history_rules.specs.Frames.{frame_of, frames_made, navigations_made}
use Rattle.history_rules.specs.Navigations.{is_newest, is_waiting}
use Rattle.history_rules.specs.Orders.{OrderData, order_of}
use Rattle.history_rules.proofs.Apart.{and_left, and_right}
use Rattle.history_rules.specs.Processes.{is_dead}
use Rattle.service_rule.specs.Services.{ServiceRule}
use Rattle.history_steps.proofs.Bounds.{frames_bounded, navigations_bounded, requests_bounded}
use Rattle.history_steps.proofs.Current.{IsDocumentIn, current_found, document_found, last_hosted}
use Rattle.history_steps.proofs.Frames.{began_below, made_below}
use Rattle.history_steps.proofs.Presence.{hosted_began}
use Rattle.history_steps.proofs.Requests.{hosted_ordered}
use Rattle.history_steps.specs.Run.{Legal}
use Rattle.message_filter.proofs.Made.{own_made}
use Rattle.browser_core.specs.Orderly.{IsOrderly}

document_below : (rule : ServiceRule) (s : ScriptData) (h : List Entry) → Legal rule s h → (f d : ℕ) → document_in s h f ≡ Some d → d < navigations_made s h
document_below rule s h legal f d is =
    let found : IsDocumentIn s h f d = document_found s h f d is in
    began_below s h d (hosted_began rule s h legal found.process d (last_hosted s h f found.process d found.last))

some_mapped : {X Y : Type 0} (f : X → Y) (o : Option X) (x : X) → o ≡ Some x → is_some (option_map f o) ≡ true
some_mapped f None x is = absurd (cc)
some_mapped f (Some y) x is = refl

current_origin : (rule : ServiceRule) (s : ScriptData) (h : List Entry) → Legal rule s h → (d : ℕ) → is_current s h d ≡ true → is_some (origin_of h d) ≡ true
unfolding origin_of
current_origin rule s h legal d is =
    let found : IsDocumentIn s h (frame_of s h d) d = current_found s h d is in
    let order = hosted_ordered rule s h legal found.process d (last_hosted s h (frame_of s h d) found.process d found.last) in
    some_mapped (λ (o : OrderData). o.origin) (order_of h d) order.0 order.1

pub orderly : (rule : ServiceRule) (s : ScriptData) (h : List Entry) → Legal rule s h → starts s ≤ 64 → IsOrderly s h
orderly rule s h legal few =
    let navigations = navigations_bounded rule s h legal in
    record {
      frames = (let frames = frames_bounded rule s h legal in omega (arith, frames, few));
      navigations = omega (arith, navigations, few);
      requests = (let requests = requests_bounded rule s h legal in omega (arith, requests));
      origins = λ d is. current_origin rule s h legal d is;
      documents = λ f d is. (let below = document_below rule s h legal f d is in omega (arith, below, navigations, few));
    }

-- the frame of a current document is a small number
pub frame_fits : (s : ScriptData) (h : List Entry) (d n : ℕ) → is_current s h d ≡ true → frames_made s h < 4294967296 → n ≡ frame_of s h d → n < 4294967296
frame_fits s h d n current small is =
    let below = made_below s h (frame_of s h d) (own_made s h d current) in
    omega (arith, small, below, is)

mapped_none : {X : Type 0} (test : X → Bool) (o : Option X) → None ≡ o → option_map_or test o false ≡ false
mapped_none test None is = refl
mapped_none test (Some x) is = absurd (cc)

-- a waiting order is there
pub waiting_is_ordered : (s : ScriptData) (h : List Entry) (n : ℕ) → is_waiting s h n ≡ true → None ≡ order_of h n → ⊥
unfolding is_waiting
waiting_is_ordered s h n waiting none =
    let tests : (is_newest s h n && option_map_or (λ (order : OrderData). not (is_dead h order.process)) (order_of h n) false) ≡ true = and_left _ _ waiting in
    let is : option_map_or (λ (order : OrderData). not (is_dead h order.process)) (order_of h n) false ≡ true = and_right _ _ tests in
    let isnt = mapped_none (λ (order : OrderData). not (is_dead h order.process)) (order_of h n) none in
    absurd (cc)
