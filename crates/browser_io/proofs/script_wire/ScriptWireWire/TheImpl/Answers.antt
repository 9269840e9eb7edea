use Rattle.std.proofs.Common.{◌≡◌, ℕ, List, Result, Ok, Err, Some, IfOk, OnErr, OnOk, ap, arith, refl}
use Rattle.browser_io.specs.Faults.{Rose, count_after}
use Rattle.browser_io.specs.declared.failed.Failed.{Failed}
use Rattle.browser_io.proofs.script_wire.ScriptWireWire.TheImpl.Goals as goal

over : {A : Type 0} (r : Result ℕ Failed) (old new : A) (left : A → List (List ℕ)) → IfOk r (λ n. n ≡ 0 → new ≡ old) → IfOk r (λ n. n ≡ 0 → Some (left new) ≡ Some (left old))
over (Ok n) old new left same = λ none. ap (λ w. Some (left w)) (same none)
over (Err e) old new left same = tt

unmoved : (r : Result ℕ Failed) (old new : List (List ℕ)) → OnErr r (new ≡ old) → OnErr r (Some new ≡ Some old)
unmoved (Ok n) old new same = tt
unmoved (Err e) old new same = ap (λ w. Some w) same

rose : (r : Result ℕ Failed) (old new : ℕ) → new ≡ count_after old r → OnErr r (Rose old new)
rose (Ok n) old new is = tt
rose (Err e) old new is = omega (arith, is)

calm : (r : Result ℕ Failed) (old new : ℕ) → new ≡ count_after old r → OnOk r (new ≡ old)
calm (Ok n) old new is = is
calm (Err e) old new is = tt

pub read-tells : goal.read-tells
read-tells g c =
    let said = c.ensures in
    record {
      bound = said.bound;
      piece = said.piece;
      end = said.end;
      over = over c.result c.args.self.now c.new.self.now (λ w. w.left) said.over;
      failing = said.failing;
      rose = rose c.result c.args.self.now.faults c.new.self.now.faults said.faults;
      unmoved = unmoved c.result c.args.self.now.left c.new.self.now.left said.unmoved;
      calm = calm c.result c.args.self.now.faults c.new.self.now.faults said.faults;
      later = said.later;
      telling = refl;
      steady = said.steady;
    }
