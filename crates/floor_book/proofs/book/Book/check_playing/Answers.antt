use Rattle.std.proofs.Common.{◌∙◌, ap, rules}
use Rattle.std.specs.Prelude.{is_some}
use Rattle.tournament_rules.specs.Books.{BookState, start_at}
use Rattle.floor_book.proofs.book.Book.check_playing.Goals as goal

pub returns-clause-told : goal.returns-clause-told
returns-clause-told c =
    let number = c.in-Some.number in
    let plays = c.self.invariant.tables.playing number in
    let seen = ap (λ (book : BookState). is_some (start_at book.started number)) c.self.view_is in
    record {
      same = search rules;
      within = search rules;
      started = search (rules, plays, seen);
      here = λ start is. (c.self.invariant.hands.starts number start
          (ap (λ (book : BookState). start_at book.started number) c.self.view_is ∙ is)).here;
    }
