-- Demand 2: a written frame, read alone, comes back; or, at the sizes named, isn't whole for the reader. Under salvage's rules each does.
use Prim.Native.Nat.{◌+◌}
use native.Mathlib.Omega.{arith}
use mathlib.Core.Path.{◌≡◌, sym, ap, ◌∙◌}
use mathlib.Core.List.{[], ◌++◌, append-nil}
use lib.ListN.{length, drop}
use borrow.Author.Tests.{le-leb}
use Rattle.dss_frame.specs.declared.Rules.{Rules}
use Rattle.dss_frame.specs.declared.Rules.TheVariants.{Reader, Salvage}
use Rattle.dss_frame.specs.Reading.{read_at, read_walk}
use Rattle.dss_frame.specs.Written.{Sent, written}
use Rattle.demands.specs.Demands.{Sendable, ComesBack, ReadsBack, ReadsEverySize, NotWhole}
use Rattle.wire.proofs.WireLaws.{pick_yes}
use Rattle.dss_laws.proofs.Looking.{look_nothing}
use Rattle.dss_laws.proofs.Framed.{segments_end, framed_short}
use Rattle.dss_laws.proofs.WritingLaws.{framed_written}
use Rattle.demands.proofs.WrittenFrames.{SizeRead, sent_at, read_written, gives_written}

alone : (f : Sent) → drop 0 (written f) ≡ written f ++ []
alone f = sym (append-nil (written f))

comes_back : (rules : Rules) (f : Sent) → Sendable f → SizeRead rules f → ComesBack written (read_at rules) f
comes_back rules f v u =
    record {
      read = sent_at f 0;
      is = read_written f v rules u (written f) [] 0 (alone f) (λ h. look_nothing rules (written f) (0 + length (written f)) (omega arith));
      gives = gives_written f (written f) [] 0 (alone f);
      consumed = segments_end (framed_written f) 0 ∙ omega arith;
    }

pub reads_back : ReadsBack written (read_at Reader)
reads_back = comes_back Reader

pub not_whole_lem : NotWhole written (read_at Reader)
unfolding read_at
not_whole_lem f v u =
    pick_yes _ _ (le-leb 0 (length (written f)) (omega arith))
    ∙ ap (read_walk Reader (written f) 0) (framed_short (framed_written f) (record { times = u.times; size = u.size }) (written f) 0 (alone f))

-- under salvage's rules there are no such sizes
pub reads_every_size : ReadsEverySize written (read_at Salvage)
reads_every_size f v = comes_back Salvage f v tt
