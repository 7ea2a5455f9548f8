-- `listing::put_frames` meets its contract: what is measured is what is read there.
use Rattle.std.proofs.Common.{rules}
use native.Mathlib.Omega.{arith}
use mathlib.Core.Path.{sym}
use Rattle.text.proofs.PutLaws.{leads_start, leads_as, leads_on, leads_last}
use Rattle.dss_frame.specs.declared.Rules.TheVariants.{Reader}
use Rattle.dss_measure.proofs.Measures.{measures, measured_not}
use Rattle.listing.proofs.ListLaws.{frames_from, lines_frame, lines_end, lines_refused}
use Rattle.listing.proofs.put_frames.Goals as goal

pub loop-measure-init : goal.loop-measure-init
loop-measure-init c =
    record {
      there = omega arith;
      leads = leads_as (frames_from _) (leads_start _ _ _ (omega arith));
      same_room = search rules;
    }

pub loop-measure-smaller : goal.loop-measure-smaller
loop-measure-smaller c = omega (arith, measures Reader _ _ _ (sym c.in-Ok.ensures))

pub loop-measure-preserved : goal.loop-measure-preserved
loop-measure-preserved c =
    let w = measures Reader c.args.run.now c.loop-measure.position c.in-Ok.measure (sym c.in-Ok.ensures) in
    record {
      there = omega (arith, w);
      leads = leads_on _ _ (leads_as (lines_frame _ _ _ w) c.loop-measure.invariant.leads) c.put_frame.ensures.puts;
      same_room = search rules;
    }

pub returns-in-Err : goal.returns-in-Err
returns-in-Err c =
    let n = measured_not Reader c.args.run.now c.loop-measure.position c.in-Err.refused (sym c.in-Err.ensures) in
    record {
      puts = leads_last _ (leads_as (lines_end _ _ _ n (sym c.if-not_whole.ensures)) c.loop-measure.invariant.leads) c.put_end.ensures.puts;
      same_room = search rules;
    }

pub returns-in-Err-2 : goal.returns-in-Err-2
returns-in-Err-2 c =
    let n = measured_not Reader c.args.run.now c.loop-measure.position c.in-Err.refused (sym c.in-Err.ensures) in
    record {
      puts = leads_last _ (leads_as (lines_refused _ _ _ n (sym c.if-not_whole.ensures)) c.loop-measure.invariant.leads) c.put_refused.ensures.puts;
      same_room = search rules;
    }
