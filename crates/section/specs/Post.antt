-- A post's record: one updater a field.
use Rattle.std.specs.Prelude.{ℕ, suc, Bool, false}
use Rattle.section.specs.declared.Fault.{Fault}
use Rattle.section.specs.declared.Fault.TheVariants.{One, Two, Three, Four}
use Rattle.section.specs.declared.Faults.{Faults}
use Rattle.section.specs.declared.Post.{Post}

abbrev pub no_faults : Faults
no_faults = record { one = false; two = false; three = false; four = false }

-- no permission, no measures, no fault, no mark, count 0, no caution form, the device at VNS
abbrev pub blank : Post
blank = record {
  device = false;
  permission = false;
  measures = false;
  faults = no_faults;
  mark = false;
  seals = 0;
  caution = 0;
}

-- the device turned to a direction
abbrev pub turned : Bool → Post → Post
turned x o = record {
  device = x;
  permission = o.permission;
  measures = o.measures;
  faults = o.faults;
  mark = o.mark;
  seals = o.seals;
  caution = o.caution;
}

-- start permission given or taken
abbrev pub permitted : Bool → Post → Post
permitted x o = record {
  device = o.device;
  permission = x;
  measures = o.measures;
  faults = o.faults;
  mark = o.mark;
  seals = o.seals;
  caution = o.caution;
}

-- measures in place or lifted
abbrev pub measured : Bool → Post → Post
measured x o = record {
  device = o.device;
  permission = o.permission;
  measures = x;
  faults = o.faults;
  mark = o.mark;
  seals = o.seals;
  caution = o.caution;
}

-- a fault that stands or is gone
abbrev pub with_fault : Fault → Bool → Faults → Faults
with_fault One x l = record { one = x; two = l.two; three = l.three; four = l.four }
with_fault Two x l = record { one = l.one; two = x; three = l.three; four = l.four }
with_fault Three x l = record { one = l.one; two = l.two; three = x; four = l.four }
with_fault Four x l = record { one = l.one; two = l.two; three = l.three; four = x }

abbrev pub faulty : Fault → Bool → Post → Post
faulty f x o = record {
  device = o.device;
  permission = o.permission;
  measures = o.measures;
  faults = with_fault f x o.faults;
  mark = o.mark;
  seals = o.seals;
  caution = o.caution;
}

-- the release mark made or dropped
abbrev pub marked : Bool → Post → Post
marked x o = record {
  device = o.device;
  permission = o.permission;
  measures = o.measures;
  faults = o.faults;
  mark = x;
  seals = o.seals;
  caution = o.caution;
}

-- the seal count one more
abbrev pub sealed : Post → Post
sealed o = record {
  device = o.device;
  permission = o.permission;
  measures = o.measures;
  faults = o.faults;
  mark = o.mark;
  seals = suc o.seals;
  caution = o.caution;
}

-- the caution form for a train, instead of any other; 0: none
abbrev pub cautioned : ℕ → Post → Post
cautioned number o = record {
  device = o.device;
  permission = o.permission;
  measures = o.measures;
  faults = o.faults;
  mark = o.mark;
  seals = o.seals;
  caution = number;
}

abbrev pub has_fault : Fault → Post → Bool
has_fault One o = o.faults.one
has_fault Two o = o.faults.two
has_fault Three o = o.faults.three
has_fault Four o = o.faults.four
