-- Worked rows, computed from the definitions.
use Rattle.std.proofs.Common.{◌≡◌, refl, true, false, List, [], ◌∷◌, ◌++◌, Some, None, Ok, Err}
use Rattle.std.proofs.Common.{codes, ◌^◌}
use lib.Count.{ones}
use Rattle.clap.proofs.OnLiterals.{clap_on_literals}
use Rattle.clap.specs.Words.{Text, takes}
use Rattle.clap.specs.Faults.{fault_of}
use Rattle.clap.specs.declared.error.kind.ErrorKind.TheVariants as kind
use Rattle.cache_core.specs.system.Plans.{exponent_of}
use Rattle.cache_core.specs.declared.design.AllocMode.TheVariants.{Always, Never}
use Rattle.cache_core.specs.declared.design.Repl.TheVariants.{Lru, Fifo, Random}
use Rattle.cache_core.specs.declared.design.WriteMode.TheVariants.{Back, Through}
use Rattle.cache_core.specs.declared.system.plan.CacheName.TheVariants.{L1U}
use Rattle.cache_core.specs.declared.system.plan.PlanFault.TheVariants.{NoFirst, MixedFirst}
use Rattle.cache_core.specs.declared.system.plan.PlanFault.TheVariants.{BadGeometry, SmallBlock}
use Rattle.cache_core.specs.Powers.{is_power}
use Rattle.sweep_core.specs.declared.space.Which.TheVariants.{Bsize, Sets, Assoc, Size}
use Rattle.sweep_core.specs.declared.space.Cause.TheVariants.{NotPower, Limit, Reversed}
use Rattle.trace_core.specs.declared.events.Kind.TheVariants.{All, DataOnly}
use Rattle.trace_core.specs.declared.line.Format.TheVariants.{Din as Din-format, Lackey}
use Rattle.arguments.specs.CommandLine.{command_of}
use Rattle.arguments.specs.Faults.{bad_geometry, incomplete, plan, space, value}
use Rattle.arguments.specs.Numbers.{number_of, range_of, scaled_of, triple_of}
use Rattle.options.specs.Options.{cachesim_app}
use Rattle.arguments.specs.declared.job.Job.TheVariants.{Csim, Din, Sweep}

-- ---- numbers

numbers : (number_of (codes "007") ≡ Some 7) × (number_of (codes "1k") ≡ None)
numbers = (refl, refl)

scaled : (scaled_of (codes "16k") ≡ Some 16384) × (scaled_of (codes "1G") ≡ Some 1073741824)
scaled = (refl, refl)

greatest_scaled : scaled_of (codes "17179869183g") ≡ Some 18446744072635809792
greatest_scaled = refl

scaled_past_64_bits : scaled_of (codes "17179869184g") ≡ None
scaled_past_64_bits = refl

greatest_number : scaled_of (codes "18446744073709551615") ≡ Some 18446744073709551615
greatest_number = refl

number_past_64_bits : scaled_of (codes "18446744073709551616") ≡ None
number_past_64_bits = refl

no_numbers : (scaled_of [] ≡ None) × (scaled_of (codes "k") ≡ None) ×
    (scaled_of (codes "1kk") ≡ None) × (scaled_of (codes "+1") ≡ None)
no_numbers = (refl, refl, refl, refl)

ranges : (range_of (codes "0-1k") ≡ Some (0, 1024)) × (range_of (codes "32") ≡ Some (32, 32)) ×
    (range_of (codes "64-16") ≡ Some (64, 16))
ranges = (refl, refl, refl)

no_ranges : (range_of (codes "-4") ≡ None) × (range_of (codes "4-") ≡ None) ×
    (range_of (codes "1-2-3") ≡ None)
no_ranges = (refl, refl, refl)

triples : triple_of (codes "16,1,7") ≡ Some (record { bsize = 16; sets = 1; assoc = 7 })
triples = refl

no_triples : (triple_of (codes "16,1") ≡ None) × (triple_of (codes "16, 1,7") ≡ None) ×
    (triple_of (codes "1k,1,1") ≡ None)
    × (triple_of (codes "16,1,7,8") ≡ None)
no_triples = (refl, refl, refl, refl)

-- ---- sweeps

abbrev sweep_arguments : Text → Text → Text → Text → List Text → List Text
sweep_arguments bsize sets assoc size more =
    codes "cachesim" ∷ codes "sweep" ∷ codes "--bsize" ∷ bsize ∷ codes "--sets" ∷ sets ∷ codes
    "--assoc" ∷ assoc ∷ codes "--size" ∷ size ∷ more

a_sweep : command_of (sweep_arguments (codes "16") (codes "1-2") (codes "1-2") (codes "16-64")
    []) ≡ Some (Ok (record {
      job = Sweep (record {
        space = record {
          bsize = (16, 16);
          sets = (1, 2);
          assoc = (1, 2);
          size =
              (16, 64);
          powers = false;
        };
        kind = All;
        format = Din-format;
        after = None;
        rows = None;
        max_lines = 2 ^ 40;
      });
      trace = None;
    }))
unfolding clap_on_literals is_power ones
a_sweep = refl

every_option : command_of (sweep_arguments (codes "16") (codes "1-2") (codes "1-2") (codes "16-64")
    (codes "--kind" ∷ codes "d" ∷ codes "--format" ∷ codes "l" ∷ codes "--after" ∷ codes "16,1,2"
    ∷ codes "--rows" ∷ codes "9" ∷ codes "--pow2" ∷ codes "-t" ∷ codes "f" ∷ []))
    ≡ Some (Ok (record {
      job = Sweep (record {
        space = record {
          bsize = (16, 16);
          sets = (1, 2);
          assoc = (1, 2);
          size =
              (16, 64);
          powers = true;
        };
        kind = DataOnly;
        format = Lackey;
        after = Some (record { bsize = 16; sets = 1; assoc = 2 });
        rows = Some 9;
        max_lines = 2 ^ 40;
      });
      trace = Some (codes "f");
    }))
unfolding clap_on_literals is_power ones
every_option = refl

a_sweep_is_taken : takes cachesim_app (sweep_arguments (codes "16") (codes "1-2") (codes "1-2")
    (codes "16-64") []) ≡ true
unfolding clap_on_literals
a_sweep_is_taken = refl

bsize_24 : command_of (sweep_arguments (codes "24") (codes "1-2") (codes "1-2") (codes "16-64") [])
    ≡ Some (Err (space (record { which = Bsize; cause = NotPower })))
unfolding clap_on_literals is_power ones
bsize_24 = refl

bsize_0 : command_of (sweep_arguments (codes "0") (codes "1-2") (codes "1-2") (codes "16-64") [])
    ≡ Some (Err (space (record { which = Bsize; cause = NotPower })))
unfolding clap_on_literals is_power ones
bsize_0 = refl

bsize_2m : command_of (sweep_arguments (codes "2m") (codes "1-2") (codes "1-2") (codes "16-64") [])
    ≡ Some (Err (space (record { which = Bsize; cause = Limit })))
unfolding clap_on_literals is_power ones
bsize_2m = refl

sets_4_to_2 : command_of (sweep_arguments (codes "16") (codes "4-2") (codes "1-2")
    (codes "16-64") [])
    ≡ Some (Err (space (record { which = Sets; cause = Reversed })))
unfolding clap_on_literals is_power ones
sets_4_to_2 = refl

assoc_0 : command_of (sweep_arguments (codes "16") (codes "1-2") (codes "0") (codes "16-64")
    []) ≡ Some (Err (space (record { which = Assoc; cause = Limit })))
unfolding clap_on_literals is_power ones
assoc_0 = refl

size_64_to_16 : command_of (sweep_arguments (codes "16") (codes "1-2") (codes "1-2")
    (codes "64-16") [])
    ≡ Some (Err (space (record { which = Size; cause = Reversed })))
unfolding clap_on_literals is_power ones
size_64_to_16 = refl

size_x : command_of (sweep_arguments (codes "16") (codes "1-2") (codes "1-2")
    (codes "x") []) ≡ Some (Err (value (codes "--size")))
unfolding clap_on_literals
size_x = refl

-- the value that is judged first counts, and no range is judged before each value is read
rows_x : command_of (sweep_arguments (codes "24") (codes "1-2") (codes "1-2") (codes "16")
    (codes "--rows" ∷ codes "x" ∷ []))
    ≡ Some (Err (value (codes "--rows")))
unfolding clap_on_literals
rows_x = refl

-- ---- csim

abbrev csim_arguments : Text → Text → Text → List Text → List Text
csim_arguments s e b more = codes "cachesim" ∷ codes "csim" ∷ codes "-s" ∷ s ∷ codes
    "-E" ∷ e ∷ codes "-b" ∷ b ∷ codes "-t" ∷ codes "f" ∷ more

a_csim : command_of (csim_arguments (codes "4") (codes "1") (codes "4") []) ≡ Some (Ok (record {
  job = Csim (record { s = 4; e = 1; b = 4 }) false (2 ^ 40);
  trace = Some (codes "f");
}))
unfolding clap_on_literals
a_csim = refl

a_verbose_csim : command_of (csim_arguments (codes "20") (codes "2") (codes "0")
    (codes "-v" ∷ [])) ≡ Some (Ok (record {
      job = Csim (record { s = 20; e = 2; b = 0 }) true (2 ^ 40);
      trace = Some (codes "f");
    }))
unfolding clap_on_literals
a_verbose_csim = refl

too_many_lines : command_of (csim_arguments (codes "20") (codes "5") (codes "0") []) ≡ Some (Err
    bad_geometry)
unfolding clap_on_literals
too_many_lines = refl

-- ---- din

abbrev din_arguments : List Text → List Text
din_arguments more = codes "cachesim" ∷ codes "din" ∷ more

abbrev unified : Text → Text → List Text → List Text
unified size bsize more = codes "-l1-usize" ∷ size ∷ codes "-l1-ubsize" ∷ bsize ∷ more

a_din : command_of (din_arguments (unified (codes "1k") (codes "16") [])) ≡ Some (Ok (record {
  job = Din (record {
    i = None;
    d = None;
    u = Some (record {
      design = record {
        geometry = record { s = 6; e = 1; b = 4 };
        write =
            Back;
        allocate = Always;
      };
      policy = Lru;
    });
    second = None;
  }) 42 Din-format (2 ^ 40);
  trace = None;
}))
unfolding clap_on_literals is_power exponent_of ones
a_din = refl

two_levels : command_of (din_arguments
    (codes "-l1-isize" ∷ codes "32" ∷ codes "-l1-ibsize" ∷ codes "16"
    ∷ codes "-l1-iassoc" ∷ codes "2" ∷ codes "-l1-irepl" ∷ codes "f"
    ∷ codes "--l1-dsize" ∷ codes "16" ∷ codes "--l1-dbsize" ∷ codes "8" ∷ codes
    "--l1-dwalloc" ∷ codes "n" ∷ codes "--l1-dwback" ∷ codes "n"
    ∷ codes "-l2-usize" ∷ codes "64" ∷ codes "-l2-ubsize" ∷ codes "16" ∷ codes
    "-l2-urepl" ∷ codes "r"
    ∷ codes "-informat" ∷ codes "l" ∷ codes "--seed" ∷ codes "7" ∷ codes "-t" ∷ codes "f" ∷ []))
    ≡ Some (Ok (record {
      job = Din (record {
        i = Some (record {
          design = record {
            geometry = record { s = 0; e = 2; b = 4 };
            write =
                Back;
            allocate = Always;
          };
          policy = Fifo;
        });
        d = Some (record {
          design = record {
            geometry = record { s = 1; e = 1; b = 3 };
            write =
                Through;
            allocate = Never;
          };
          policy = Lru;
        });
        u = None;
        second = Some (record {
          design = record {
            geometry = record { s = 2; e = 1; b = 4 };
            write =
                Back;
            allocate = Always;
          };
          policy = Random;
        });
      }) 7 Lackey (2 ^ 40);
      trace = Some (codes "f");
    }))
unfolding clap_on_literals is_power exponent_of ones
two_levels = refl

no_cache : command_of (din_arguments []) ≡ Some (Err (plan NoFirst))
unfolding clap_on_literals
no_cache = refl

a_mixed_level : command_of (din_arguments (unified (codes "16") (codes "16")
    (codes "-l1-isize" ∷ codes "16" ∷ codes "-l1-ibsize" ∷ codes "16" ∷ []))) ≡ Some (Err
    (plan MixedFirst))
unfolding clap_on_literals is_power ones
a_mixed_level = refl

no_geometry : command_of (din_arguments (unified (codes "16") (codes "32") [])) ≡ Some (Err
    (plan (BadGeometry L1U)))
unfolding clap_on_literals is_power exponent_of ones
no_geometry = refl

smaller_blocks_below : command_of (din_arguments (unified (codes "32") (codes "32")
    (codes "-l2-usize" ∷ codes "32" ∷ codes "-l2-ubsize" ∷ codes "16" ∷ []))) ≡ Some (Err
    (plan SmallBlock))
unfolding clap_on_literals is_power exponent_of ones
smaller_blocks_below = refl

size_48 : command_of (din_arguments (unified (codes "48") (codes "16") [])) ≡ Some (Err
    (value (codes "-l1-usize")))
unfolding clap_on_literals is_power ones
size_48 = refl

size_0 : command_of (din_arguments (unified (codes "0") (codes "16") [])) ≡ Some (Err
    (value (codes "-l1-usize")))
unfolding clap_on_literals is_power ones
size_0 = refl

-- sets in place of a size: 48 KiB in 12 ways
twelve_ways : command_of (din_arguments (codes "-l1-dsets" ∷ codes "64" ∷ codes "-l1-dbsize" ∷ codes
    "64" ∷ codes "-l1-dassoc" ∷ codes "12" ∷ []))
    ≡ Some (Ok (record {
      job = Din (record {
        i = None;
        d = Some (record {
          design = record {
            geometry = record { s = 6; e = 12; b = 6 };
            write =
                Back;
            allocate = Always;
          };
          policy = Lru;
        });
        u = None;
        second = None;
      }) 42 Din-format (2 ^ 40);
      trace = None;
    }))
unfolding clap_on_literals is_power exponent_of ones
twelve_ways = refl

sets_3 : command_of (din_arguments (codes "-l1-usets" ∷ codes "3" ∷ [])) ≡ Some (Err
    (value (codes "-l1-usets")))
unfolding clap_on_literals is_power ones
sets_3 = refl

abbrev both : Text → Text → Text → Text → List Text
both size sets bsize assoc = unified size bsize
    (codes "--l1-usets" ∷ sets ∷ codes "--l1-uassoc" ∷ assoc ∷ [])

-- a size and sets that agree
size_and_sets : command_of (din_arguments (both (codes "1k") (codes "8") (codes "64") (codes "2")))
    ≡ Some (Ok (record {
      job = Din (record {
        i = None;
        d = None;
        u = Some (record {
          design = record {
            geometry = record { s = 3; e = 2; b = 6 };
            write =
                Back;
            allocate = Always;
          };
          policy = Lru;
        });
        second = None;
      }) 42 Din-format (2 ^ 40);
      trace = None;
    }))
unfolding clap_on_literals is_power exponent_of ones
size_and_sets = refl

-- and some that do not: 16 sets of 2 lines would be 2 KiB
size_against_sets : command_of
    (din_arguments (both (codes "1k") (codes "16") (codes "64") (codes "2"))) ≡ Some (Err
    (plan (BadGeometry L1U)))
unfolding clap_on_literals is_power exponent_of ones
size_against_sets = refl

-- such a pair is judged in the plan's order: here two kinds of first level come before it
mixed_before_sizes : command_of
    (din_arguments (both (codes "1k") (codes "16") (codes "64") (codes "2")
    ++ codes "-l1-isize" ∷ codes "16" ∷ codes "-l1-ibsize" ∷ codes "16" ∷ [])) ≡ Some (Err
    (plan MixedFirst))
unfolding clap_on_literals is_power exponent_of ones
mixed_before_sizes = refl

size_and_sets_alone : command_of
    (din_arguments (codes "-l1-usets" ∷ codes "1" ∷ codes "-l1-usize" ∷ codes "16" ∷ [])) ≡
    Some (Err (incomplete L1U))
unfolding clap_on_literals is_power ones
size_and_sets_alone = refl

sets_alone : command_of (din_arguments (codes "-l1-usets" ∷ codes "1" ∷ [])) ≡ Some (Err
    (incomplete L1U))
unfolding clap_on_literals is_power ones
sets_alone = refl

no_ways : command_of (din_arguments (codes "-l1-usets" ∷ codes "1" ∷ codes "-l1-ubsize" ∷ codes
    "16" ∷ codes "-l1-uassoc" ∷ codes "0" ∷ []))
    ≡ Some (Err (plan (BadGeometry L1U)))
unfolding clap_on_literals is_power exponent_of ones
no_ways = refl

-- 2^63 sets of two bytes: no size below 2^64
too_many_sets : command_of (din_arguments (codes "-l1-usets" ∷ codes "8589934592g" ∷ codes
    "-l1-ubsize" ∷ codes "2" ∷ []))
    ≡ Some (Err (plan (BadGeometry L1U)))
unfolding clap_on_literals is_power exponent_of ones
too_many_sets = refl

an_incomplete_cache : command_of (din_arguments (codes "-l1-uassoc" ∷ codes "2" ∷ [])) ≡ Some (Err
    (incomplete L1U))
unfolding clap_on_literals
an_incomplete_cache = refl

din_is_taken_with_two_dashes : takes cachesim_app
    (din_arguments (codes "--l1-uassoc" ∷ codes "2" ∷ [])) ≡ true
unfolding clap_on_literals
din_is_taken_with_two_dashes = refl

-- ---- what clap refuses

missing_options : fault_of cachesim_app (codes "cachesim" ∷ codes "sweep" ∷ codes "--bsize" ∷ codes
    "16" ∷ []) ≡ kind.MissingRequiredArgument ∷ []
unfolding clap_on_literals
missing_options = refl

a_repeated_option : fault_of cachesim_app (sweep_arguments (codes "16") (codes "1-2") (codes "1-2")
    (codes "16-64")
    (codes "-t" ∷ codes "f" ∷ codes "-t" ∷ codes "g" ∷ [])) ≡ kind.ArgumentConflict ∷ []
unfolding clap_on_literals
a_repeated_option = refl

an_unknown_option : fault_of cachesim_app
    (codes "cachesim" ∷ codes "sweep" ∷ codes "--bsizes" ∷ []) ≡ kind.UnknownArgument ∷ []
unfolding clap_on_literals
an_unknown_option = refl

help_wanted : fault_of cachesim_app
    (codes "cachesim" ∷ codes "sweep" ∷ codes "--help" ∷ []) ≡ kind.DisplayHelp ∷ []
unfolding clap_on_literals
help_wanted = refl

no_command : fault_of cachesim_app (codes "cachesim" ∷ []) ≡ kind.MissingSubcommand ∷ []
unfolding clap_on_literals
no_command = refl

-- a value that begins with a dash is read as an option, unless it stands behind `=`
a_dash : fault_of cachesim_app (sweep_arguments (codes "16") (codes "1-2") (codes "1-2")
    (codes "-4") []) ≡ kind.UnknownArgument ∷ []
unfolding clap_on_literals
a_dash = refl

a_dash_behind_equals : command_of (codes "cachesim" ∷ codes "sweep" ∷ codes "--bsize" ∷ codes "16"
    ∷ codes "--sets" ∷ codes "1-2" ∷ codes "--assoc" ∷ codes "1-2" ∷ codes "--size=-4" ∷ [])
    ≡ Some (Err (value (codes "--size")))
unfolding clap_on_literals
a_dash_behind_equals = refl
