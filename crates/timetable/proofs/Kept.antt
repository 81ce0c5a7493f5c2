-- What timetables of a line keep.
use Rattle.std.proofs.Common.{◌≡◌, ℕ, ◌+◌, ◌*◌, ◌≤◌, length, get_or, ap, arith}
use Rattle.std.proofs.Math.Nat.{mul-le-mul_right}
use Rattle.hoist_base.specs.LineData.{LineData, last_stage}
use Rattle.hoist_base.specs.Valid.{IsLine}
use Rattle.timetable.specs.TimetableData.{TimetableData, IsTimetable, IsTimetableOf}

-- a product of equal numbers
same_product : (a b m n p : ℕ) → p ≡ m * n → a ≡ m → b ≡ n → p ≡ a * b
same_product a b m n p e f g =
    let f' : a * b ≡ m * b = ap (λ (x : ℕ). x * b) f in
    let g' : m * b ≡ m * n = ap (λ (x : ℕ). m * x) g in
    omega (arith, e, f', g')

-- a timetable of a line keeps what every timetable keeps
pub kept : (l : LineData) (d : TimetableData) → IsLine l → IsTimetableOf l d → IsTimetable d
kept l d line h =
    let limits = line.limits in
    let fits = h.fits in
    record {
      period = h.period;
      steps = (omega (arith, fits.steps, limits.stages), omega (arith, fits.steps, limits.stages));
      carriers = (omega (arith, fits.put_count, limits.degree), omega (arith, fits.put_count, limits.degree));
      off_count = omega (arith, fits.off_count, fits.put_count);
      start_count = same_product (length d.put) d.steps l.degree (last_stage l) (length d.start) fits.start_count fits.put_count fits.steps;
      hoist_count = same_product (length d.put) d.steps l.degree (last_stage l) (length d.hoist) fits.hoist_count fits.put_count fits.steps;
      tank_count = same_product (length d.put) (d.steps + 1) l.degree (length l.stages)
          (length d.tank) fits.route.count fits.put_count (omega (arith, fits.steps, limits.stages));
      path_count = omega (arith, fits.path_count, mul-le-mul_right d.period limits.hoists.1);
      put_ticks = h.put_ticks;
      off_ticks = h.off_ticks;
      start_ticks = h.start_ticks;
      rows = λ i lt.
          let le : get_or d.hoist i 0 + 1 ≤ l.hoists = omega (arith, h.hoists i lt) in
          omega (arith, fits.path_count, mul-le-mul_right d.period le);
    }
