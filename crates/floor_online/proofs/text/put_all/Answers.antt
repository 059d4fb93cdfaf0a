use Rattle.std.proofs.Common.{◌≡◌, ℕ, List, subst, rules}
use Rattle.std.specs.List.{flat_map}
use Rattle.replay_rules.specs.Replay.{final_text, tournament_text}
use Rattle.dock_rules.specs.Journals.{expand, tale_of}
use Rattle.view_rules.specs.declared.entries.JournalEntry.{JournalEntry}
use Rattle.book_dock.specs.Ends.{journal_of}
use Rattle.floor_online.specs.EntryText.{entry_text}
use Rattle.floor_online.proofs.Putting.{PutsAll, PutsAs, PutsFront, front_more, put_behind, put_erred, text_is}
use Rattle.floor_online.proofs.text.put_all.Goals as goal

pub returns-in_err-put_entries-clause-bytes : goal.returns-in_err-put_entries-clause-bytes
returns-in_err-put_entries-clause-bytes g c =
    let journal = journal_of c.args.end.now in
    let same : c.deref.result.now ≡ journal = search rules in
    let first = g.O.Sink.written c.args.out.now in
    let now = g.O.Sink.written c.put_entries.new.out in
    let put : PutsFront first (flat_map entry_text journal) now =
    subst (λ (entries : List JournalEntry). PutsFront first (flat_map entry_text entries) now) same
    c.in_err-put_entries.ensures.bytes in
    put_erred first now (tournament_text (expand journal)) c.from_residual.result _
    c.from_residual.ensures.1
    (subst (λ (text : List ℕ). PutsFront first text now) (text_is journal)
    (front_more first now (flat_map entry_text journal) (final_text (tale_of journal).state) put))

pub returns-clause-bytes : goal.returns-clause-bytes
returns-clause-bytes g c =
    let journal = journal_of c.args.end.now in
    let same : c.deref.result.now ≡ journal = search rules in
    let first = g.O.Sink.written c.args.out.now in
    let mid = g.O.Sink.written c.put_entries.new.out in
    let now = g.O.Sink.written c.put_report.new.out in
    let put : PutsAll first (flat_map entry_text journal) mid =
    subst (λ (entries : List JournalEntry). PutsAll first (flat_map entry_text entries) mid) same
    c.in_ok-put_entries.ensures.bytes in
    subst (λ (text : List ℕ). PutsAs first text now c.put_report.result) (text_is journal)
    (put_behind first mid now (flat_map entry_text journal) (final_text (tale_of journal).state) c.put_report.result
    put c.put_report.ensures.bytes)
