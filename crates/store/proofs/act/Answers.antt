use Rattle.std.proofs.Common.{ℕ, suc, ◌-◌, ◌≡◌, arith}
use Rattle.book.specs.Steps.{rule_of}
use Rattle.room.specs.Layout.{store}
use Rattle.store.specs.Granted.{end_in, coordinated, timely_at, writing, deliver_in}
use Rattle.store.proofs.act.Goals as goal

pub end-requires : goal.end-requires
unfolding rule_of
end-requires c = let t = end_in (store c.args.room.now) c.requires.formed c.in-End.s.index 0 0 (rw c.in-End.is at c.requires.taken) in (t.1, t.2)

pub prepare-requires : goal.prepare-requires
prepare-requires c =
    let σ = store c.args.room.now in
    let a = c.in-Prepare in
    (coordinated σ c.requires.formed a.t.index a.t.below, timely_at σ c.requires.formed a.t.index a.p.index a.t.below a.p.below)

pub decide-requires : goal.decide-requires
decide-requires c = writing (store c.args.room.now) c.requires.formed c.in-Decide.t.index c.in-Decide.t.below

pub deliver-requires : goal.deliver-requires
unfolding rule_of
deliver-requires c =
    let a = c.in-Deliver in
    let t = deliver_in (store c.args.room.now) c.requires.formed a.to.partition.index a.from.index a.to.hall.index (rw a.is at c.requires.taken) in
    (t.3, t.4)

-- the number of a place, and that number's place
back : (t : ℕ) → suc t - 1 ≡ t
back t = omega arith

pub returns-in-Prepare : goal.returns-in-Prepare
unfolding rule_of
returns-in-Prepare c = rw (c.in-Prepare.is, back) c.prepare.ensures

pub returns-in-Commit : goal.returns-in-Commit
unfolding rule_of
returns-in-Commit c = rw (c.in-Commit.is, back) c.commit.ensures

pub returns-in-Install : goal.returns-in-Install
unfolding rule_of
returns-in-Install c = rw c.in-Install.is c.install.ensures

pub returns-in-Deliver : goal.returns-in-Deliver
unfolding rule_of
returns-in-Deliver c = rw c.in-Deliver.is c.deliver.ensures
