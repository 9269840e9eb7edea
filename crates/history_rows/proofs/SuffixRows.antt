-- Registrable domains and sites.
use Rattle.std.proofs.Common.{refl}
use Rattle.std.specs.Prelude.{◌≡◌, ◌∷◌, [], Err, List, None, Ok, Some, codes, false, map, true, ℕ}
use Rattle.public_suffix.specs.RegistrableDomain.{SuffixRule, registrable}
use Rattle.page_origin.specs.Origins.{site_text}
use Rattle.page_origin.specs.PageUrls.{join_url_of, key_of}
use Rattle.page_origin.specs.declared.origin.Origin.TheVariants.{Tuple}
use Rattle.page_origin.specs.declared.page.UrlRefusal.TheVariants.{BadUrl}
use Rattle.page_origin.specs.declared.site.Scheme.TheVariants.{Https}
use Rattle.page_origin.specs.declared.site.Site.{Site}
use Rattle.site_url.specs.Sites.{SiteRuleData, site_of}
use Rattle.history_entry.specs.declared.entry.Entry.{Entry}
use Rattle.history_entry.specs.declared.entry.Entry.TheVariants.{Order}
use Rattle.history_rules.specs.Processes.{site_number}
use Rattle.history_rows.proofs.OnLiterals.{history_on_literals}

abbrev pub some_rules : List SuffixRule
some_rules = record { exception = false; text = codes "co.uk" } ∷ record { exception = false; text = codes "*.ck" }
    ∷ record { exception = true; text = codes "www.ck" } ∷ []

-- sites by these rules, where one origin is isolated
abbrev pub some_sites : SiteRuleData
some_sites = record { suffixes = some_rules; isolated = (record { scheme = Https; host = codes "pay.a.com"; port = 8443 }) ∷ [] }

-- the places at which registrable domains begin
pub places : map (registrable some_rules) (codes "a.b.co.uk" ∷ codes "www.ck" ∷ codes "b.c.ck" ∷ codes "co.uk" ∷ codes "a.com." ∷ codes "" ∷ codes "a.www.ck" ∷ codes "uk" ∷ [])
    ≡ Some 2 ∷ Some 0 ∷ Some 0 ∷ None ∷ None ∷ None ∷ Some 2 ∷ None ∷ []
unfolding history_on_literals
places = refl

pub sites : map (λ url. site_text (site_of some_sites url)) (codes "https://co.uk/" ∷ codes "https://1.2.3.4/" ∷ codes "https://a.com./" ∷ codes "http://x.a.com:8080/" ∷ codes "https://[::1]/"
    ∷ codes "https://pay.a.com:8443/" ∷ codes "https://pay.a.com/" ∷ codes "http://pay.a.com:8443/" ∷ codes "https://x.pay.a.com:8443/" ∷ [])
    ≡ codes "https://co.uk" ∷ codes "https://1.2.3.4" ∷ codes "https://a.com." ∷ codes "http://a.com" ∷ codes "https://[::1]"
    ∷ codes "=https://pay.a.com:8443" ∷ codes "https://a.com" ∷ codes "http://a.com" ∷ codes "https://a.com" ∷ []
unfolding history_on_literals
sites = refl

-- what the first URL of a chain is joined to, and what it is looked up by
pub joins : map (λ text. join_url_of (codes "https://a.com/x?q#f") text) (codes "" ∷ codes "#g" ∷ codes "/y" ∷ codes "//b.com" ∷ codes "data:,x" ∷ codes "https://[" ∷ [])
    ≡ Ok (codes "https://a.com/x?q") ∷ Ok (codes "https://a.com/x?q#g") ∷ Ok (codes "https://a.com/y") ∷ Ok (codes "https://b.com/") ∷ Ok (codes "data:,x") ∷ Err BadUrl ∷ []
unfolding history_on_literals
joins = refl

pub keys_of : map key_of (codes "https://a.com/x#f#g" ∷ codes "https://a.com/" ∷ []) ≡ codes "https://a.com/x" ∷ codes "https://a.com/" ∷ []
unfolding history_on_literals
keys_of = refl

abbrev pub site_with : List ℕ → Site
site_with host = record { scheme = Https; host = host; only = None }

abbrev pub order_to_site : List ℕ → Entry
order_to_site host = Order 0 0 (site_with host) (Tuple (record { scheme = Https; host = host; port = 443 })) []

-- sites are numbered in the order of their first orders
pub site_numbers : map (λ host. site_number (map order_to_site (codes "a" ∷ codes "b" ∷ codes "a" ∷ codes "c" ∷ codes "b" ∷ [])) (site_with host))
    (codes "a" ∷ codes "b" ∷ codes "c" ∷ codes "d" ∷ []) ≡ 0 ∷ 1 ∷ 2 ∷ 3 ∷ []
unfolding history_on_literals
site_numbers = refl
