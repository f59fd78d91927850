-- What is in order is what showing a kind wants.
use Rattle.std.proofs.Common.{◌≡◌, ℕ, ◌*◌, ◌≤◌, length, Some, Option, sym, ap, subst, ap₂, subst₂, arith}
use Rattle.model.specs.declared.kind.KindRow.{KindRow}
use Rattle.model.specs.Books.{finding_in}
use Rattle.model.specs.Kinds.{kind_row}
use Rattle.model.specs.Lines.{line_at}
use Rattle.model.specs.Showing.{strip_needed, row_trail, kind_trail}
use Rattle.model.specs.Table.{number}
use Rattle.model.proofs.OperandsRead.{read_so}
use Rattle.engine.specs.Strips.{Put}
use Rattle.engine.proofs.Filled.{day_fits}
use Rattle.engine.proofs.ShowRefusals.{to_show}
use Rattle.engine.proofs.showing.Asked.write.Goals as goal

pub invariant_of-entry : goal.invariant_of-entry
invariant_of-entry g c =
    let s = c.args.self.now in
    let n = g.F.Floor.points s.floor.now in
    let m = g.C.Floor.points s.calendar.now in
    let k = s.numbers in
    let o = to_show k.points k.days k.lines n m s.lines.now (length s.findings.now) s.at.line s.at.day s.at.point (finding_in s.findings.now k.points k.days s.at.line s.at.day s.at.point) (length c.args.strip.now) c.requires in
    let size : m * n ≡ k.days * k.points = ap₂ (λ a b. a * b) o.calendar o.floor in
    let all : s.at.line * (m * n) ≡ s.at.line * (k.days * k.points) = ap (λ a. s.at.line * a) size in
    let fits = day_fits s.at.line k.lines (k.days * k.points) o.line in
    record { line = omega arith; days = omega arith; day = omega arith; point = omega arith; held = omega arith }

pub show_kind-requires : goal.show_kind-requires
show_kind-requires g c =
    let s = c.args.self.now in
    let n = g.F.Floor.points s.floor.now in
    let m = g.C.Floor.points s.calendar.now in
    let k = s.numbers in
    let i = s.at.line in
    let book = s.findings.now in
    let held = length c.args.strip.now in
    let o = to_show k.points k.days k.lines n m s.lines.now (length book) i s.at.day s.at.point (finding_in book k.points k.days i s.at.day s.at.point) held c.requires in
    let row = c.in_ok-row.row in
    let named : kind_row (line_at s.lines.now i).kind ≡ Some row = sym c.in_ok-row.ensures in
    record {
      operands = read_so i (line_at s.lines.now i) (line_at s.lines.now i).kind (o.lawful i o.line) row named;
      room = subst₂ (λ (a b : ℕ). strip_needed row.kind b (number (finding_in book a b i s.at.day s.at.point)) ≤ held) (sym o.floor) (sym o.calendar) (o.room row named);
    }

pub returns : goal.returns
returns g c =
    let s = c.args.self.now in
    let n = g.F.Floor.points s.floor.now in
    let leads = g.F.Floor.leads s.floor.now in
    let m = g.C.Floor.points s.calendar.now in
    let after = g.C.Floor.leads s.calendar.now in
    let k = s.numbers in
    let book = s.findings.now in
    let i = s.at.line in
    let d = s.at.day in
    let x = s.at.point in
    let old = c.args.strip.now in
    let o = to_show k.points k.days k.lines n m s.lines.now (length book) i d x (finding_in book k.points k.days i d x) (length old) c.requires in
    let h = c.show_kind in
    let line = line_at s.lines.now i in
    let row = c.in_ok-row.row in
    let named : Some row ≡ kind_row line.kind = c.in_ok-row.ensures in
    let put = subst₂ (λ (a b : ℕ). Put (kind_trail a leads b after row.kind (finding_in book a b) line.left line.right i d x) old h.new.strip h.result) o.floor o.calendar h.ensures in
    subst (λ (q : Option KindRow). Put (row_trail k.points leads k.days after q (finding_in book k.points k.days) line i d x) old h.new.strip h.result) named put
