-- A commit against its order, by the order's URL and origin.
use Rattle.std.proofs.Common.{ap, ◌∙◌}
use Rattle.std.specs.Option.{option_map, option_map_or}
use Rattle.std.specs.Prelude.{◌≡◌, if◌then◌else◌, List, None, Option, Some, bytes_eq, not, ℕ}
use Rattle.history_entry.specs.declared.reply.Reply.{Reply}
use Rattle.history_entry.specs.declared.reply.Reply.TheVariants.{Kill, Ok as Okay}
use Rattle.history_entry.specs.declared.rule.Rule.TheVariants.{K10, K8, K9}
use Rattle.history_rules.specs.Judgement.{compare_order}
use Rattle.history_rules.specs.Orders.{OrderData}
use Rattle.page_origin.specs.Origins.{equal_origins}
use Rattle.page_origin.specs.declared.origin.Origin.{Origin}

compared_parts : List ℕ → Origin → List ℕ → Origin → Reply
compared_parts url origin own_url own_origin = if not (bytes_eq url own_url) then Kill K9 else if not (equal_origins origin own_origin) then Kill K10 else Okay

pub compared : (o : Option OrderData) (url : List ℕ) (origin : Origin) (own_url : List ℕ) (own_origin : Origin)
    → option_map (λ order. order.url) o ≡ Some own_url → option_map (λ order. order.origin) o ≡ Some own_origin
    → (if not (bytes_eq url own_url) then Kill K9 else if not (equal_origins origin own_origin) then Kill K10 else Okay) ≡ option_map_or (compare_order url origin) o (Kill K8)
unfolding compared_parts
compared None url origin own_url own_origin is_url is_origin = absurd (cc)
compared (Some order) url origin own_url own_origin is_url is_origin =
    let same_url : own_url ≡ order.url = cc in
    let same_origin : own_origin ≡ order.origin = cc in
    ap (λ u. compared_parts url origin u own_origin) same_url ∙ ap (λ w. compared_parts url origin order.url w) same_origin
