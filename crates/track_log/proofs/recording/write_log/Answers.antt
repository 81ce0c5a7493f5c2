use Rattle.std.proofs.Common.{◌≡◌, ℕ, subst, arith}
use Rattle.track_log.specs.Following.{command}
use Rattle.track_log.specs.Recording.{line_to}
use Rattle.track_log.proofs.Recorded.{is_log, text_is}
use Rattle.track_log.proofs.Sooner.{goes_as}
use Rattle.track_log.proofs.recording.write_log.Goals as goal

pub returns-clause-text : goal.returns-clause-text
returns-clause-text g c =
    let l = c.args.line.now in
    let at = g.D.Driver.place c.args.driver.now in
    let orders = g.D.Driver.command c.args.driver.now in
    let first = g.D.Driver.first_tick c.args.driver.now in
    let last = g.D.Driver.last_tick c.args.driver.now in
    record {
      fits = is_log l first last at orders c.hoists-hoists.ensures.valid c.requires.order c.requires.few c.requires.apart c.requires.still c.requires.tanks;
      text = text_is l first last c.hoists-hoists.result c.first-first.result c.last-last.result at orders c.in_ok-text.text.items c.push_places.new.text.items
          c.push.new.self.items c.push_lines.new.text.items c.extend_from_slice.new.self.items c.hoists-hoists.ensures.value c.first-first.ensures
          c.last-last.ensures c.in_ok-text.ensures.items c.in_ok-push_places.ensures c.in_ok-push.ensures.items c.in_ok-push_lines.ensures.text
          c.in_ok-extend_from_slice.ensures.items;
    }

pub returns-clause-followed : goal.returns-clause-followed
returns-clause-followed g c =
    let orders = g.D.Driver.command c.args.driver.now in
    goes_as c.args.line.now (g.D.Driver.first_tick c.args.driver.now) (g.D.Driver.last_tick c.args.driver.now) (g.D.Driver.place c.args.driver.now) orders
    c.requires.order c.requires.apart
    (λ t from to. subst (λ (n : ℕ). command (line_to n (orders t)) ≡ orders t) c.hoists-hoists.ensures.value
    (c.in_ok-push_lines.ensures.there t (omega (arith, from, c.first-first.ensures)) (omega (arith, to, c.last-last.ensures))))
