-- Hosts that are IP addresses, as the host serializer of the URL Standard writes them.
use Rattle.std.specs.Prelude.{ℕ, Bool, false, ◌==◌, ◌&&◌, ◌||◌, nat_lt, List, slice_index}
use Rattle.std.specs.List.{list_all}
use Rattle.std.specs.Option.{option_map_or}
use Rattle.decimal_text.specs.Numbers.{decimal_number}
use Rattle.public_suffix.specs.Labels.{labels, label_count}

-- a number from 0 to 255 in decimal, without leading zeros
unfoldable pub is_octet : List ℕ → Bool
is_octet text = option_map_or (λ n. nat_lt n 256) (decimal_number text) false

-- an IPv4 address: four such numbers with dots between them
unfoldable pub is_dotted_quad : List ℕ → Bool
is_dotted_quad host = label_count host == 4 && list_all is_octet (labels host)

-- an IPv6 address, in brackets, or an IPv4 address
unfoldable pub is_ip_address : List ℕ → Bool
is_ip_address host = slice_index host 0 == 91 || is_dotted_quad host
