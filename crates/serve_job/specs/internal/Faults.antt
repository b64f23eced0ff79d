-- The faults of the program's server.
-- Source: this project.
use Rattle.osm_commands.specs.declared.command_fault.CommandFault.{CommandFault}
use Rattle.osm_commands.specs.declared.command_fault.CommandFault.TheVariants.{Memory, Device}
use Rattle.osm_traffic.specs.declared.traffic_fault.TrafficFault.{TrafficFault}
use Rattle.osm_traffic.specs.declared.traffic_fault.TrafficFault.TheVariants as traffic

-- what sockets that give no further connection are to the command: those that never end are a device
abbrev pub fault_of_traffic : TrafficFault → CommandFault
fault_of_traffic traffic.Memory = Memory
fault_of_traffic traffic.Device = Device
fault_of_traffic traffic.Endless = Device
