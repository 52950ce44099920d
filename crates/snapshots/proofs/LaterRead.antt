-- What later steps leave as it was: the view at a snapshot.
use Rattle.std.specs.Prelude.{ℕ, ◌<◌, ◌≡◌}
use Rattle.std.proofs.Common.{sym, ◌∙◌}
use Rattle.book.specs.declared.Answer.TheVariants.{Read}
use Rattle.book.specs.Sizes.{keys}
use Rattle.book.specs.Cells.{Store, Snapshot}
use Rattle.book.specs.Steps.{refusal, answer}
use Rattle.book.specs.History.{ever_view, decided_ever}
use Rattle.book.specs.Reached.{Reached, Later}
use Rattle.invariant.proofs.Reach.{reached_later}
use Rattle.snapshots.proofs.Ever.{ever_decided}
use Rattle.snapshots.specs.SnapshotRead.{Fetches}
use Rattle.snapshots.proofs.SnapshotRead.{snapshot_read}
use Rattle.snapshots.proofs.LaterView.{later_decided}

-- Later steps never alter the view at a session's snapshot of all that was decided. (Running or not.)
pub later_never_alters : {σ τ : Store} (r : Reached σ) (w : Later σ τ) (s k : ℕ) → k < keys
    → ever_view (decided_ever (reached_later r w)) k (σ (Snapshot s)) ≡ ever_view (decided_ever r) k (σ (Snapshot s))
later_never_alters {σ} r w s k kb =
    let S = σ (Snapshot s) in
    ever_decided (reached_later r w) k S ∙ (later_decided r w s k kb ∙ sym (ever_decided r k S))

-- However much later, as long as the session has that snapshot still, a read at any hall that holds the key answers what it would have
-- answered.
pub later_read : {σ τ : Store} (r : Reached σ) → Later σ τ → (s k h : ℕ) → Fetches τ s k h → τ (Snapshot s) ≡ σ (Snapshot s)
    → (refusal τ 3 s k h ≡ 0) × (answer τ 3 s k h ≡ Read (ever_view (decided_ever r) k (σ (Snapshot s))))
later_read r w s k h f e =
    let x = snapshot_read (reached_later r w) s k h f in
    (x.0, x.1 ∙ rw (e, later_never_alters r w s k f.key))
