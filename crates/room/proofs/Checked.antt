-- The layout, tested by computing.
use Rattle.std.specs.Prelude.{◌+◌, true, ◌≡◌, refl}
use Rattle.book.specs.Sizes.{halls_max, partitions_max}
use Rattle.book.specs.Cells.{cell}
use Rattle.book.specs.Folds.{all}
use Rattle.room.specs.Layout.{size, kinds, count_i, count_j, count_k, count_l, valid, last_kind, cell_at, stretch, start}
use Rattle.room.specs.Checked.{found, named, of_server}

pub each_cell :
    all kinds
    (λ n. all (count_i n) (λ i. all (count_j n) (λ j. all (count_k n) (λ k. all (count_l n) (λ l. found (cell n i j k l))))))
    ≡ true
unfolding all cell_at last_kind
each_cell = refl

pub each_word : all size named ≡ true
unfolding all cell_at last_kind valid
each_word = refl

-- every word of a stretch is a cell's of that server
pub each_stretch :
    all halls_max
    (λ h. all partitions_max (λ p. all stretch (λ o. of_server h p (cell_at (start h p + o)))))
    ≡ true
unfolding all cell_at last_kind
each_stretch = refl
