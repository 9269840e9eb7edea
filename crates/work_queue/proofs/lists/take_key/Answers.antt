use Rattle.std.proofs.Common.{◌∙◌, ap, sym}
use Rattle.std.specs.Prelude.{position}
use Rattle.work_queue.specs.Keys.{same_key}
use Rattle.work_queue.proofs.AtMostOne.{filter_is_all, found_any, missing}
use Rattle.work_queue.proofs.Taking.{key_counts, key_rest}
use Rattle.work_queue.proofs.lists.take_key.Goals as goal

pub returns-in-Some-clause-found : goal.returns-in-Some-clause-found
returns-in-Some-clause-found c =
    let is = ap (position (same_key c.args.key)) (sym c.as_slice.ensures.value) ∙ sym c.in-Some.ensures in
    sym (found_any (same_key c.args.key) c.args.out.now.items c.in-Some.place is)

pub returns-in-Some-clause-rest : goal.returns-in-Some-clause-rest
returns-in-Some-clause-rest c =
    let is = ap (position (same_key c.args.key)) (sym c.as_slice.ensures.value) ∙ sym c.in-Some.ensures in
    key_rest c.args.key c.args.out.now.items c.remove.new.self.items c.in-Some.place is c.remove.ensures.items c.requires

pub returns-in-Some-clause-counts : goal.returns-in-Some-clause-counts
returns-in-Some-clause-counts c =
    let is = ap (position (same_key c.args.key)) (sym c.as_slice.ensures.value) ∙ sym c.in-Some.ensures in
    key_counts c.args.key c.args.out.now.items c.remove.new.self.items c.in-Some.place is c.remove.ensures.items

pub returns-in-None-clause-found : goal.returns-in-None-clause-found
returns-in-None-clause-found c =
    sym (missing (same_key c.args.key) c.args.out.now.items (ap (position (same_key c.args.key)) (sym c.as_slice.ensures.value) ∙ sym c.in-None.ensures))

pub returns-in-None-clause-rest : goal.returns-in-None-clause-rest
returns-in-None-clause-rest c =
    let none = missing (same_key c.args.key) c.args.out.now.items (ap (position (same_key c.args.key)) (sym c.as_slice.ensures.value) ∙ sym c.in-None.ensures) in
    sym (filter_is_all (same_key c.args.key) c.args.out.now.items none)
