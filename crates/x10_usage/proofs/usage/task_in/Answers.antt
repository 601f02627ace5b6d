use Rattle.std.proofs.Common.{sym, ap, ◌∙◌}
use Rattle.std.specs.Prelude.{codes}
use Rattle.std.specs.Str.Parse.{ParsesUnsigned, ExplainsUnsignedError, HasUnsignedDigitsIfOk}
use Rattle.clap.specs.Matches.{found_of, first_value, one_text}
use Rattle.x10_usage.specs.Tasks.{color_named, explained_by, is_page, schedule_named, verb_named}
use Rattle.x10_usage.proofs.TaskNumbers.{number_read}
use Rattle.x10_usage.proofs.usage.task_in.Goals as goal

pub returns : goal.returns
returns c = record {
  name = c.in_ok-name.name.now;
  is_verbose = c.get_flag-is_verbose.result;
  found = found_of c.in_ok-name.matches.now;
  name_is = sym c.in_ok-name.ensures.name;
  rows_are = sym c.in_ok-name.ensures.rows;
  verbose_is = record { none = c.get_flag-is_verbose.ensures.none; yes = c.get_flag-is_verbose.ensures.value; no = c.get_flag-is_verbose.ensures.other };
  verb_is = c.verb_of-verb.ensures ∙ ap (λ p. verb_named c.in_ok-name.name.now c.get_flag-is_verbose.result p)
      (c.is_page.ensures ∙ ap (λ o. is_page o) c.get_str-output.ensures);
  input_is = sym c.in_ok-get_str.ensures;
  output_is = c.get_str-output.ensures;
  log_is = c.get_str-2.ensures;
  places_is = number_read 16 (λ bs r. ParsesUnsigned 16 10 bs r × ExplainsUnsignedError 10 bs r × HasUnsignedDigitsIfOk bs r)
      (one_text (found_of c.in_ok-name.matches.now) (codes "places")) c.get_one.result (λ bs r g. g.0) c.get_one.ensures.none c.get_one.ensures.value;
  asked = c.get_one-2.result;
  is_asked = number_read 64 (λ bs r. ParsesUnsigned 64 10 bs r × ExplainsUnsignedError 10 bs r × HasUnsignedDigitsIfOk bs r)
      (one_text (found_of c.in_ok-name.matches.now) (codes "limit")) c.get_one-2.result
      (λ bs r g. g.0) c.get_one-2.ensures.none c.get_one-2.ensures.value;
  limit_is = c.unwrap_or.ensures;
  schedule_is = c.schedule_of.ensures ∙ ap (λ o. schedule_named o c.is_some.result) c.get_str-3.ensures
      ∙ ap (λ b. schedule_named (first_value (found_of c.in_ok-name.matches.now) (codes "schedule")) b) c.is_some.ensures;
  seed_is = number_read 64 (λ bs r. ParsesUnsigned 64 10 bs r × ExplainsUnsignedError 10 bs r × HasUnsignedDigitsIfOk bs r)
      (one_text (found_of c.in_ok-name.matches.now) (codes "seed")) c.get_one-seed.result
      (λ bs r g. g.0) c.get_one-seed.ensures.none c.get_one-seed.ensures.value;
  asked_seeds = c.get_one-3.result;
  are_asked = number_read 64 (λ bs r. ParsesUnsigned 64 10 bs r × ExplainsUnsignedError 10 bs r × HasUnsignedDigitsIfOk bs r)
      (one_text (found_of c.in_ok-name.matches.now) (codes "seeds")) c.get_one-3.result
      (λ bs r g. g.0) c.get_one-3.ensures.none c.get_one-3.ensures.value;
  seeds_is = c.unwrap_or-2.ensures;
  window_is = record {
    asked = c.get_one-4.result;
    is_asked = number_read 64 (λ bs r. ParsesUnsigned 64 10 bs r × ExplainsUnsignedError 10 bs r × HasUnsignedDigitsIfOk bs r)
        (one_text (found_of c.in_ok-name.matches.now) (codes "from")) c.get_one-4.result
        (λ bs r g. g.0) c.get_one-4.ensures.none c.get_one-4.ensures.value;
    from_is = c.unwrap_or-3.ensures;
    to_is = number_read 64 (λ bs r. ParsesUnsigned 64 10 bs r × ExplainsUnsignedError 10 bs r × HasUnsignedDigitsIfOk bs r)
        (one_text (found_of c.in_ok-name.matches.now) (codes "to")) c.get_one-5.result
        (λ bs r g. g.0) c.get_one-5.ensures.none c.get_one-5.ensures.value;
  };
  threads_is = record { none = c.get_flag.ensures.none; yes = c.get_flag.ensures.value; no = c.get_flag.ensures.other };
  json_is = record { none = c.get_flag-2.ensures.none; yes = c.get_flag-2.ensures.value; no = c.get_flag-2.ensures.other };
  stats_is = record { none = c.get_flag-3.ensures.none; yes = c.get_flag-3.ensures.value; no = c.get_flag-3.ensures.other };
  activities_is = c.tells_activities.ensures;
  explain_is = c.is_explained.ensures ∙ ap (λ o. explained_by o c.args.explain) c.get_str-4.ensures;
  color_is = c.color_of.ensures ∙ ap (λ o. color_named o) c.get_str-5.ensures;
}
