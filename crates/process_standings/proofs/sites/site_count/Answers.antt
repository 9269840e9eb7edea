use Rattle.std.proofs.Common.{arith, ap, take, cond, ◌≡◌, ◌∙◌, ◌+◌}
use Rattle.process_standings.proofs.SiteCounts.{count_step}
use Rattle.process_standings.specs.Changing.{is_new_site}
use Rattle.process_standings.proofs.sites.site_count.Goals as goal
use Rattle.process_standings.proofs.sites.site_count.Goals.{then-is_new_site, else-is_new_site}

pub loop-place-preserved : goal.loop-place-preserved
loop-place-preserved c =
    let h = c.args.entries.now in
    let i = c.loop-place.place in
    let new : c.is_new_site.result ≡ is_new_site (take i h) c.index-entries-place.result =
    c.is_new_site.ensures ∙ ap (λ before. is_new_site before c.index-entries-place.result) c.split_at.ensures.front in
    let step = count_step h i c.index-entries-place.result c.loop-place.count c.is_new_site.result c.loop-place-test.true c.index-entries-place.is c.loop-place.invariant.counted new in
    elim c.if-is_new_site.branch [
      | then-is_new_site w ↦ (let one : c.loop-place.count + cond c.is_new_site.result 1 0 ≡ c.loop-place.count + 1 = ap (λ b. c.loop-place.count + cond b 1 0) w.if-is_new_site.true in
          record { counted = omega (arith, step, one); few = omega arith })
      | else-is_new_site w ↦ (let none : c.loop-place.count + cond c.is_new_site.result 1 0 ≡ c.loop-place.count + 0 = ap (λ b. c.loop-place.count + cond b 1 0) w.if-is_new_site.false in
          record { counted = omega (arith, step, none); few = omega arith })
    ]
