-- The claims of specs/Demand, all proved. Assumes nothing.
use Rattle.meaning.specs.Demand.{Demands}
use Rattle.meaning.proofs.Stream.{first_then_rest}
use Rattle.meaning.proofs.Folding.{capitals_in_names, one_name, case_aside, names_folded}
use Rattle.meaning.proofs.SameText.{same_tokens, same_text}
use Rattle.meaning.proofs.Spelling.{has_text, keywords_remain}
use Rattle.meaning.proofs.Numbering.{marks_numbered}
use Rattle.meaning.proofs.Limits.{within_exactly_if}
use Rattle.meaning.proofs.Withdrawn.{withdraw_exactly_if, withdraw_takes_note}
use Rattle.meaning.proofs.Clauses.{clauses_mean, clauses_count}
use Rattle.meaning.proofs.Classes.{classes_linked}
use Rattle.meaning.proofs.Accepted.{lowest_number, refused_changes_nothing, reads_exactly, one_sentence, accepted_exactly_if, accepted_is_added}
use Rattle.meaning.proofs.Record.{record_reads_back}
use Rattle.meaning.proofs.Within32.{answer_reads_back}
use Rattle.meaning.proofs.Weakening.{patterns_weaken, pushed_weakens, answer_stays}
use Rattle.meaning.proofs.Nulls.{null_unknown, others_known, three_values, takes_true, null_tests, opposites, null_tests_in_patterns, never_true}
use Rattle.meaning.proofs.Outer.{no_pair_listed}
use Rattle.meaning.proofs.Drops.{affected_means, drops_exactly_if, insert_known, patterns_alone, affected_matched}
use Rattle.meaning.proofs.Stays.{stays_undropped}
use Rattle.meaning.proofs.Proposed.{proposal_gives_rows, proposal_notes_only, note_held, commit_does_it, commit_as_proposed}

pub demands : Demands
demands = record {
  lowest_number = lowest_number;
  refused_changes_nothing = refused_changes_nothing;
  reads_exactly = reads_exactly;
  one_sentence = one_sentence;
  first_then_rest = first_then_rest;
  capitals_in_names = capitals_in_names;
  one_name = one_name;
  case_aside = case_aside;
  keywords_remain = keywords_remain;
  names_folded = names_folded;
  same_tokens = same_tokens;
  same_text = same_text;
  has_text = has_text;
  marks_numbered = marks_numbered;
  within_exactly_if = within_exactly_if;
  accepted_exactly_if = accepted_exactly_if;
  accepted_is_added = accepted_is_added;
  record_reads_back = record_reads_back;
  answer_reads_back = answer_reads_back;
  patterns_weaken = patterns_weaken;
  pushed_weakens = pushed_weakens;
  answer_stays = answer_stays;
  clauses_mean = clauses_mean;
  clauses_count = clauses_count;
  classes_linked = classes_linked;
  null_unknown = null_unknown;
  others_known = others_known;
  three_values = three_values;
  takes_true = takes_true;
  null_tests = null_tests;
  opposites = opposites;
  null_tests_in_patterns = null_tests_in_patterns;
  never_true = never_true;
  no_pair_listed = no_pair_listed;
  affected_means = affected_means;
  drops_exactly_if = drops_exactly_if;
  insert_known = insert_known;
  patterns_alone = patterns_alone;
  affected_matched = affected_matched;
  stays_undropped = stays_undropped;
  proposal_gives_rows = proposal_gives_rows;
  withdraw_exactly_if = withdraw_exactly_if;
  withdraw_takes_note = withdraw_takes_note;
  proposal_notes_only = proposal_notes_only;
  note_held = note_held;
  commit_does_it = commit_does_it;
  commit_as_proposed = commit_as_proposed;
}
