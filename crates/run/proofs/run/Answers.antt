-- What a call that is done has passed lets the walk begin, and what the walk leaves is the call's.
use Rattle.run.proofs.Outcomes.{section_in_range, steps_well_formed, section_left, answers_left}
use Rattle.run.proofs.run.Goals as goal

pub judge_steps-section-requires-clause-s_value : goal.judge_steps-section-requires-clause-s_value
judge_steps-section-requires-clause-s_value c = (section_in_range _ _ _ c.in-Ok.ensures, λ _. steps_well_formed _ _ _ c.in-Ok.ensures)

pub returns-in-Ok-clause-value : goal.returns-in-Ok-clause-value
returns-in-Ok-clause-value c = section_left _ _ _ c.in-Ok.ensures c.judge_steps-section.ensures.value

pub returns-in-Ok-clause-answers_after : goal.returns-in-Ok-clause-answers_after
returns-in-Ok-clause-answers_after c = answers_left _ _ _ c.in-Ok.ensures c.judge_steps-section.ensures.buffer_after
