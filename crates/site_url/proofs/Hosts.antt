-- The end of a host's name is a host.
use Rattle.std.proofs.Common.{◌≡◌, ℕ, ◌<◌, suc, zero, Bool, true, false, List, [], ◌∷◌, length, drop, get_or, refl, arith, ◌&&◌}
use Rattle.std.specs.List.{list_all}
use Rattle.std.proofs.lemmas.Bool.Decides.{nat_tests}
use Rattle.page_origin.specs.HostSpelling.{is_host, is_name_byte}
use Rattle.site_url.specs.Addresses.{is_ip_address}

and_left : (a b : Bool) → (a && b) ≡ true → a ≡ true
and_left true b e = refl
and_left false b e = absurd (cc)

and_right : (a b : Bool) → (a && b) ≡ true → b ≡ true
and_right true b e = e
and_right false b e = absurd (cc)

and_both : (a b : Bool) → a ≡ true → b ≡ true → (a && b) ≡ true
and_both true b e f = f
and_both false b e f = absurd (cc)

-- what passes at each byte passes at each byte of the end
all_drop : (p : ℕ → Bool) (bytes : List ℕ) (start : ℕ) → list_all p bytes ≡ true → list_all p (drop start bytes) ≡ true
all_drop p bytes zero all = all
all_drop p [] (suc start) all = refl
all_drop p (b ∷ bytes) (suc start) all = all_drop p bytes start (and_right (p b) (list_all p bytes) all)

some_drop : (bytes : List ℕ) (start : ℕ) → start < length bytes → 0 < length (drop start bytes)
some_drop bytes zero within = omega arith
some_drop [] (suc start) within = absurd (omega arith)
some_drop (b ∷ bytes) (suc start) within = some_drop bytes start (omega arith)

-- visible bytes without delimiters are a host
name_host : (text : List ℕ) → 0 < length text → list_all is_name_byte text ≡ true → is_host text ≡ true
unfolding is_host
name_host [] some all = absurd (omega arith)
name_host (b ∷ text) some all =
    let first = and_left (is_name_byte b) (list_all is_name_byte text) all in
    grind (arith, nat_tests)

-- a host that is no address is a name
pub host_name : (host : List ℕ) → is_host host ≡ true → is_ip_address host ≡ false → list_all is_name_byte host ≡ true
unfolding is_host is_ip_address
host_name host valid name = grind (arith, nat_tests)

-- the end of such a host is a host
pub host_end : (host : List ℕ) (start : ℕ) → is_host host ≡ true → is_ip_address host ≡ false → start < length host → is_host (drop start host) ≡ true
host_end host start valid name within =
    name_host (drop start host) (some_drop host start within) (all_drop is_name_byte host start (host_name host valid name))

-- and none of its bytes is above 127
ascii_at : (bytes : List ℕ) (i : ℕ) → list_all is_name_byte bytes ≡ true → get_or bytes i 0 < 128
ascii_at [] i all = omega arith
ascii_at (b ∷ bytes) zero all = let first = and_left (is_name_byte b) (list_all is_name_byte bytes) all in grind (arith, nat_tests)
ascii_at (b ∷ bytes) (suc i) all = ascii_at bytes i (and_right (is_name_byte b) (list_all is_name_byte bytes) all)

pub host_ascii : (host : List ℕ) (i : ℕ) → is_host host ≡ true → is_ip_address host ≡ false → get_or host i 0 < 128
host_ascii host i valid name = ascii_at host i (host_name host valid name)
