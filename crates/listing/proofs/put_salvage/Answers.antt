-- `listing::put_salvage` meets its contract: each step of the walk is an entry, or the tail.
use Rattle.std.proofs.Common.{rules}
use native.Mathlib.Omega.{arith}
use mathlib.Core.Path.{sym}
use Rattle.text.proofs.PutLaws.{leads_start, leads_as, leads_on, leads_last}
use Rattle.dss_salvage.proofs.SalvageStepping.{on_frame, on_over, on_last, on_end}
use Rattle.listing.proofs.ListLaws.{salvages_from_lem, salvages_frame, salvages_over, salvages_last, salvages_end}
use Rattle.listing.proofs.put_salvage.Goals as goal
use Rattle.listing.proofs.put_salvage.Goals.{in-Last, in-End}

pub loop-measure-init : goal.loop-measure-init
loop-measure-init c =
    record {
      there = omega arith;
      leads = leads_as (salvages_from_lem _) (leads_start _ _ _ (omega arith));
      same_room = search rules;
    }

pub loop-measure-smaller-in-Frame : goal.loop-measure-smaller-in-Frame
loop-measure-smaller-in-Frame c =
    let w = (on_frame c.args.run.now c.loop-measure.position c.in-Frame.measure (sym c.in-Frame.ensures)).measured in
    omega (arith, w)

pub loop-measure-preserved-in-Frame : goal.loop-measure-preserved-in-Frame
loop-measure-preserved-in-Frame c =
    let f = on_frame c.args.run.now c.loop-measure.position c.in-Frame.measure (sym c.in-Frame.ensures) in
    let w = f.measured in
    record {
      there = omega (arith, w);
      leads = leads_on _ _ (leads_as (salvages_frame _ _ _ f) c.loop-measure.invariant.leads) c.put_frame.ensures.puts;
      same_room = search rules;
    }

pub loop-measure-smaller : goal.loop-measure-smaller
loop-measure-smaller c = omega (arith, on_over _ _ _ _ (sym c.in-Over.ensures))

pub loop-measure-preserved : goal.loop-measure-preserved
loop-measure-preserved c =
    let w = on_over c.args.run.now c.loop-measure.position c.in-Over.refused c.in-Over.next (sym c.in-Over.ensures) in
    record {
      there = omega (arith, w);
      leads = leads_on _ _ (leads_as (salvages_over _ _ _ _ w) c.loop-measure.invariant.leads) c.put_refused.ensures.puts;
      same_room = search rules;
    }

pub returns : goal.returns
returns c =
    elim c.match-step_at.branch [
      | in-Last w ↦
          let e = on_last c.args.run.now c.loop-measure.position w.in-Last.refused (sym w.in-Last.ensures) in
          record {
            puts =
                leads_last _ (leads_on _ _ (leads_as (salvages_last _ _ _ e) c.loop-measure.invariant.leads) w.put_refused-in-Last.ensures.puts)
                (rw w.text-is at c.put_end.ensures.puts);
            same_room = search rules;
          }
      | in-End w ↦
          record {
            puts =
                leads_last _ (leads_as (salvages_end _ _ (on_end _ _ (sym w.in-End.ensures))) c.loop-measure.invariant.leads)
                (rw w.text-is at c.put_end.ensures.puts);
            same_room = search rules;
          }
    ]
