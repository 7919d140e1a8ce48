use Rattle.std.proofs.Common.{◌≡◌, ℕ, ◌+◌, ◌-◌, ◌≤◌, List, ◌++◌, map, length, get_or, take, drop, sym, ap, ◌∙◌, ap₂, zero-add, arith, rules}
use Rattle.std.proofs.lemmas.List.{length-append, length-drop, length-map, length-take, map-append, take_all}
use Rattle.rows.specs.Memory.{written}
use Rattle.rows.specs.Memory.{words_of}
use Rattle.rows.specs.Widths.{places_of}
use Rattle.rows.proofs.Writing.{written_after}
use Rattle.rows.specs.declared.range.Range.{Range}
use Rattle.ranges.specs.RangesWithin.{rows_in_width, rows_of_ranges_within}
use Rattle.rows.specs.Ranges.{ranges_of}
use Rattle.rows.proofs.Ranges.{no_range}
use Rattle.ranges.proofs.RowsWithin.{within_more, within_front, within_room, part_written}
use Rattle.ranges.proofs.run_rows.write_rows_of.Goals as goal

pub offset_bounds-memory-next : goal.offset_bounds-memory-next
offset_bounds-memory-next c =
    let k = within_front (places_of c.args.width) c.args.runs.now c.loop-run.run-index in
    let e = c.loop-run.invariant.1 in
    let r = c.requires.room in
    let m = c.loop-run.auto.memory in
    let h : c.loop-run.next ≤ length c.loop-run.memory = omega arith in
    search rules

pub slice_bounds-write_rows_of_run-count : goal.slice_bounds-write_rows_of_run-count
slice_bounds-write_rows_of_run-count c =
    let k = within_front (places_of c.args.width) c.args.runs.now c.loop-run.run-index in
    let e = c.loop-run.invariant.1 in
    let r = c.requires.room in
    let m = c.loop-run.auto.memory in
    omega arith

pub slice_bounds-write_rows_of_run-start : goal.slice_bounds-write_rows_of_run-start
slice_bounds-write_rows_of_run-start c =
    let k = within_front (places_of c.args.width) c.args.runs.now c.loop-run.run-index in
    let e = c.loop-run.invariant.1 in
    let r = c.requires.room in
    let m = c.loop-run.auto.memory in
    let h : c.loop-run.next ≤ length c.loop-run.memory = omega arith in
    search rules

pub write_rows_of_run-next-requires : goal.write_rows_of_run-next-requires
write_rows_of_run-next-requires c =
    let n = places_of c.args.width in
    let R = c.args.runs.now in
    let L = c.loop-run in
    let k = within_room n R L.run-index c.loop-run-test.true in
    let e = L.invariant.1 in
    let r = c.requires.room in
    let m = L.auto.memory in
    let a = length-take (length L.memory - L.next) (drop L.next L.memory) in
    let b = length-drop L.next L.memory in
    record { room = omega arith }

pub overflow_add-next : goal.overflow_add-next
overflow_add-next c =
    let n = places_of c.args.width in
    let R = c.args.runs.now in
    let L = c.loop-run in
    let k = within_room n R L.run-index c.loop-run-test.true in
    let e = L.invariant.1 in
    let f = c.write_rows_of_run-next.ensures.count in
    let r = c.requires.room in
    let m = L.auto.memory in
    let h : L.next + c.write_rows_of_run-next.result ≤ length L.memory = omega arith in
    search rules

pub loop-run-preserved : goal.loop-run-preserved
loop-run-preserved c =
    let n = places_of c.args.width in
    let R = c.args.runs.now in
    let L = c.loop-run in
    let i = L.run-index in
    let run = get_or R i no_range in
    let done = rows_of_ranges_within n (ranges_of (take i R)) in
    let new = rows_in_width n (run.first, run.last) in
    let w = c.write_rows_of_run-next in
    let k = within_room n R i c.loop-run-test.true in
    let r = c.requires.room in
    let m = L.auto.memory in
    let e = L.invariant.1 in
    let f = w.ensures.count in
    let long : length (map words_of new) ≡ length new = length-map new words_of in
    let all : length (map words_of done) ≡ length done = length-map done words_of in
    let more = within_more n R i c.loop-run-test.true in (
      part_written L.memory w.new.memory (map words_of new) L.next w.result (omega arith) (omega arith) w.ensures.rows ∙
          written_after (map words_of done) (map words_of new) c.args.memory.now L.memory 0 L.next (omega arith) L.invariant.0 (omega arith) ∙
          ap (written c.args.memory.now 0) (sym (map-append words_of done new) ∙ ap (map words_of) (sym more)),
      ap₂ (λ (a b : ℕ). a + b) e f ∙ sym (ap length more ∙ length-append done new),
    )

pub returns : goal.returns
returns c =
    let n = places_of c.args.width in
    let R = c.args.runs.now in
    let rows = rows_of_ranges_within n (ranges_of R) in
    let all = ap (λ (k : List Range). map words_of (rows_of_ranges_within n (ranges_of k))) (take_all c.loop-run.run-index R c.loop-run-test.false) in
    record {
      rows = c.loop-run.invariant.0 ∙ ap (written c.args.memory.now 0) all ∙
          ap (λ (k : ℕ). map words_of rows ++ drop k c.args.memory.now) (zero-add (length (map words_of rows)) ∙ length-map rows words_of);
    }
