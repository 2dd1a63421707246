-- The fields of a system as contracts see them.
use Rattle.cache_core.specs.declared.system.System.TheInside.{Inside}
use Rattle.cache_core.specs.system.SystemSteps.{SystemValue}

abbrev pub system_value : Inside → SystemValue
system_value s =
    record {
      i = s.i;
      d = s.d;
      u = s.u;
      second = s.second;
      memory = s.memory;
      bypassed =
          s.bypassed;
      steps = s.steps;
    }
