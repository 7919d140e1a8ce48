use Rattle.std.proofs.Common.{◌≡◌, ℕ, ◌≤◌, false, List, ◌++◌, map, length, drop, ap, ◌∙◌, arith}
use Rattle.std.proofs.lemmas.List.{length-map, length-take-le}
use Rattle.rows.specs.Memory.{words_of}
use Rattle.rows.specs.Widths.{places_of}
use Rattle.sheets.specs.Format.{size_of_sheet}
use Rattle.sheet.specs.Faults.{cares_outside}
use Rattle.sheet.specs.Packing.{sheet_of}
use Rattle.sheet.proofs.RoundTrips.{words_inside, sheet_again, size_again}
use Rattle.sheet.proofs.round_trip.read_then_pack.Goals as goal

pub invariant_of-packed : goal.invariant_of-packed
invariant_of-packed c =
    let p = c.in_ok-size.ensures.is_sheet in
    let n = places_of c.in_ok-size.size.width in
    let words : c.write_rows.new.memory ≡ map words_of p.0 = c.write_rows.ensures.rows p.0 p.1.0 in
    let inside : cares_outside n c.write_rows.new.memory ≡ false = ap (cares_outside n) words ∙ words_inside n p.0 p.1.0.even in
    let few : length c.write_rows.new.memory ≤ 120 = let l = ap length words ∙ length-map p.0 words_of in let f = p.1.0.few in omega arith in
    record { inside = inside; few = few }

pub write-requires : goal.write-requires
write-requires c =
    let p = c.in_ok-size.ensures.is_sheet in
    let words : c.write_rows.new.memory ≡ map words_of p.0 = c.write_rows.ensures.rows p.0 p.1.0 in
    let given = length-take-le (length c.args.sheet.now) c.args.again.now c.if-again-sheet.false in
    let needed : size_of_sheet (places_of c.in_ok-size.size.width) (length c.write_rows.new.memory) ≡ length c.args.sheet.now =
    ap (size_of_sheet (places_of c.in_ok-size.size.width)) (ap length words ∙ length-map p.0 words_of) ∙ size_again _ p.0 c.args.sheet.now p.1.0 in
    record { size = omega arith }

pub returns-clause-same_bytes : goal.returns-clause-same_bytes
returns-clause-same_bytes c =
    let p = c.in_ok-size.ensures.is_sheet in
    let n = places_of c.in_ok-size.size.width in
    let words : c.write_rows.new.memory ≡ map words_of p.0 = c.write_rows.ensures.rows p.0 p.1.0 in
    ap (λ (x : List ℕ). x ++ drop (length c.args.sheet.now) c.args.again.now)
    (c.write.ensures.sheet ∙ ap (sheet_of n) words ∙ sheet_again n p.0 c.args.sheet.now p.1.0)
