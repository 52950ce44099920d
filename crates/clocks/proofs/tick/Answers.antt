use Rattle.std.proofs.Common.{refl}
use Rattle.room.specs.Layout.{store}
use Rattle.lent.specs.Moves.{ticked_clock}
use Rattle.clocks.specs.Clocks.{clock_of, reading_alone}
use Rattle.clocks.proofs.tick.Goals as goal

pub returns : goal.returns
returns c =
    let σ = store c.args.room.now in
    let h = c.args.s.hall.index in
    let p = c.args.s.partition.index in (
      refl,
      rw (c.put_back.ensures, c.after_tick.ensures, c.take.ensures)
          (reading_alone σ h p (ticked_clock (clock_of σ h p) c.args.x) refl refl),
    )
