-- A navigation whose last URL is empty commits with no origin.
use Rattle.url.proofs.OnLiterals.{url_on_literals}
use Rattle.std.proofs.Common.{◌≡◌, ◌∙◌, ap, refl, ℕ, List, [], Bool, true, false, None, Option}
use Rattle.std.specs.Prelude.{cond, option_and_then}
use Rattle.std.specs.Option.{option_map}
use Rattle.page_origin.specs.PageUrls.{class_of, parts_of}
use Rattle.page_origin.specs.declared.class.UrlClass.TheVariants.{Foreign}
use Rattle.page_origin.specs.declared.origin.Origin.{Origin}
use Rattle.history_entry.specs.declared.entry.Entry.{Entry}
use Rattle.script_model.specs.ScriptData.{ScriptData}
use Rattle.history_rules.specs.Frames.{frame_of, is_sandboxed}
use Rattle.history_rules.specs.Navigations.{base_of_class, base_origin, chain_of, commit_origin, opaque_of}
use Rattle.history_rules.specs.Redirects.{last_url}
use Rattle.history_steps.specs.MayFollow.{chosen_order, order_with}

empty_foreign : class_of [] ≡ Foreign
unfolding class_of parts_of url_on_literals
empty_foreign = refl

no_base : (s : ScriptData) (h : List Entry) (n : ℕ) → last_url (chain_of s h n) ≡ [] → base_origin s h n ≡ None
unfolding base_origin
no_base s h n empty = ap (λ url. base_of_class s h n (class_of url)) empty ∙ ap (base_of_class s h n) empty_foreign

either_none : (b : Bool) (f : Origin → Origin) → cond {A = Option Origin} b (option_map f None) None ≡ None
either_none true f = refl
either_none false f = refl

no_origin : (s : ScriptData) (h : List Entry) (n : ℕ) → last_url (chain_of s h n) ≡ [] → commit_origin s h n ≡ None
unfolding commit_origin
no_origin s h n empty =
    ap (λ o. cond (is_sandboxed s h (frame_of s h n)) (option_map (opaque_of s n) o) o) (no_base s h n empty)
    ∙ either_none (is_sandboxed s h (frame_of s h n)) (opaque_of s n)

-- so it is not ordered
pub no_order : (s : ScriptData) (h : List Entry) (n : ℕ) → [] ≡ last_url (chain_of s h n) → chosen_order s h n ≡ None
unfolding chosen_order
no_order s h n empty = ap (option_and_then (order_with s h n)) (no_origin s h n (Rattle.std.proofs.Common.sym empty))
