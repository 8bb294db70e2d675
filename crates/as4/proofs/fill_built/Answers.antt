use native.Mathlib.Omega.{arith}
use Rattle.as4.proofs.PutLaws as put
use Rattle.as4.proofs.fill_built.Goals as goal

pub slice_bounds-put_split-count : goal.slice_bounds-put_split-count
slice_bounds-put_split-count c = let r = c.requires in omega (arith, put.part_room r.front _ r.room)

pub slice_bounds-put_split-start : goal.slice_bounds-put_split-start
slice_bounds-put_split-start c = let r = c.requires in omega (arith, put.part_room r.front _ r.room)

pub slice_bounds-put_split-count-2 : goal.slice_bounds-put_split-count-2
slice_bounds-put_split-count-2 c = let r = c.requires in omega (arith, put.part_room r.front _ r.room)

pub slice_bounds-put_split-start-2 : goal.slice_bounds-put_split-start-2
slice_bounds-put_split-start-2 c = let r = c.requires in omega (arith, put.part_room r.front _ r.room)

pub put_split-requires : goal.put_split-requires
put_split-requires c = let r = c.requires in record { front = r.front; room = (put.part_room r.front _ r.room).2 }

pub slice_bounds-fill_kept-count : goal.slice_bounds-fill_kept-count
slice_bounds-fill_kept-count c = let r = c.requires in omega (arith, put.more_room r.front _ r.room c.split_count.ensures c.put_split.ensures)

pub slice_bounds-fill_kept-start : goal.slice_bounds-fill_kept-start
slice_bounds-fill_kept-start c = let r = c.requires in omega (arith, put.more_room r.front _ r.room c.split_count.ensures c.put_split.ensures)

pub slice_bounds-fill_kept-count-2 : goal.slice_bounds-fill_kept-count-2
slice_bounds-fill_kept-count-2 c = let r = c.requires in omega (arith, put.more_room r.front _ r.room c.split_count.ensures c.put_split.ensures)

pub slice_bounds-fill_kept-start-2 : goal.slice_bounds-fill_kept-start-2
slice_bounds-fill_kept-start-2 c = let r = c.requires in omega (arith, put.more_room r.front _ r.room c.split_count.ensures c.put_split.ensures)

pub fill_kept-requires : goal.fill_kept-requires
fill_kept-requires c = let r = c.requires in record { good = r.good; room = (put.more_room r.front _ r.room c.split_count.ensures c.put_split.ensures).2 }

pub put_front-requires-clause-room : goal.put_front-requires-clause-room
put_front-requires-clause-room c = let r = c.requires in put.whole_room r.front _ r.room c.split_count.ensures c.put_split.ensures c.fill_kept.ensures

pub returns : goal.returns
returns c = let r = c.requires in put.built_put r.front _ r.room c.split_count.ensures c.put_split.ensures c.fill_kept.ensures c.put_front.ensures
