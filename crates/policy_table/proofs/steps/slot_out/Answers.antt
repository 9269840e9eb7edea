use Rattle.std.proofs.Common.{◌≡◌, ◌∷◌, Some, subst, sym, refl}
use Rattle.atomic_table.specs.Table.{rest}
use Rattle.policy_table.proofs.steps.slot_out.Goals as goal

pub exchange-requires : goal.exchange-requires
exchange-requires g c = let full = c.requires.full in (c.requires.desk.0, (Some full.0, subst (λ l. l ≡ (0, Some full.0) ∷ rest l) (sym full.1) refl))
