use Rattle.process_standings.proofs.OwnNumbers.{one_number_a_site, one_site_a_number}
use Rattle.process_standings.proofs.laws.numbers_stand_for_sites.Goals as goal

pub returns : goal.returns
returns c = record { site = one_site_a_number; number = one_number_a_site }
