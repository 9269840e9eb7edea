use Rattle.std.proofs.Common.{subst, sym, List, ℕ, None, ◌∷◌, []}
use Rattle.atomic_table.specs.Table.{opening}
use Rattle.policy_table.specs.TableRule.{IsKept}
use Rattle.policy_table.specs.Views.{opener}
use Rattle.policy_table.proofs.Keeping.{new_table_kept}
use Rattle.policy_table.proofs.desk.Desk.new.Goals as goal

pub vacant-requires : goal.vacant-requires
vacant-requires g c = let log = g.O.Booked.history c.args.core in
    subst (λ (ws : List ℕ). IsKept g.O.Booked.history g.O.Booked.standing (opening ws (None ∷ []) (opener log))) (sym c.as_slice.ensures.value)
    (new_table_kept g.O.Booked.history g.O.Booked.standing c.in-Ok.words.items log c.in-Ok.ensures.wide.0 c.in-Ok.ensures.wide.1 c.in-Ok.ensures.rows)
